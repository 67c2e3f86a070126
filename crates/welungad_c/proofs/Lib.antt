pub mod Cases
pub mod Ended
pub mod Parts
pub mod Replies
pub mod TopCall
pub mod UpdateReplies
