pub mod Answers
pub mod Faults
pub mod Reading
pub mod Records
pub mod Sheet
pub mod SheetStatements
pub mod Table
pub mod View
