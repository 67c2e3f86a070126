pub mod LargerSets
pub mod LeftLists
pub mod Openings
pub mod SetSteps
pub mod SetLists
pub mod SetTables
pub mod SetAnswers
