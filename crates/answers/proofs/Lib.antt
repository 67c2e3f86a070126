pub mod Decided
pub mod Endings
pub mod Stopping
