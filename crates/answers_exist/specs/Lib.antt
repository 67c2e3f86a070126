pub mod Existence
pub mod Runs
