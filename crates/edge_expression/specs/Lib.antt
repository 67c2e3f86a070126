pub mod ByteMachine
pub mod CursorView
pub mod EntryReading
pub mod EntryTexts
pub mod EntryValues
pub mod EntryView
pub mod ExpressionStatements
pub mod Expressions
