pub mod CountTexts
pub mod PartTexts
pub mod PieceSteps
pub mod Readings
pub mod WholeReadings
