pub mod Answers
pub mod Document
pub mod Faults
pub mod JsonStatements
pub mod Reading
pub mod Values
pub mod WholeRatios
pub mod Written
