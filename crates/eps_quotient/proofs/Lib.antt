pub mod Constants
pub mod CoreTests
pub mod Quick
pub mod ReadBack
pub mod ReadSteps
pub mod Spelled
pub mod Stored
pub mod TermLaws
pub mod TextsHeld
pub mod Units
pub mod LimitOfNorm
mod Texts
