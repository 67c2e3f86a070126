mod Answers
pub mod ByTheRules
mod Near
mod Neighbours
pub mod Ordered
mod Quarters
mod Readable
mod Steps
mod Unique
pub mod Units
mod Wide
