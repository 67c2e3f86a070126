pub mod AnyEdges
pub mod CaseEdges
pub mod Lines
pub mod Orders
pub mod PrintedLevels
pub mod Runs
pub mod TextSteps
