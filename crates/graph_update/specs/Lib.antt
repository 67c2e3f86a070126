pub mod UpdateText
pub mod Updates
pub mod UpdateLaws
