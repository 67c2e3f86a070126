pub mod Looking
pub mod RegisterFaults
pub mod RegisterStatements
pub mod RegisterView
pub mod Replying
