pub mod LesserRows
pub mod Places
pub mod Readings
pub mod RowFacts
