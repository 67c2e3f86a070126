pub mod InPlace
pub mod WrittenRows
pub mod Given
pub mod Opened
