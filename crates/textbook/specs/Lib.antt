pub mod DefinedDecisions
pub mod TextbookRuns
pub mod TextbookStatements
pub mod Gatekeeping
pub mod Examples
