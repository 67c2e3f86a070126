pub mod EachEnd
pub mod Following
pub mod OneEnd
pub mod RegisterSteps
pub mod TakenLooks
