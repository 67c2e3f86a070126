pub mod Done
pub mod Greater
pub mod LevelOne
pub mod ListLaws
pub mod RunValues
pub mod Steps
