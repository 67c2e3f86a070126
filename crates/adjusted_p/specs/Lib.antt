pub mod AdjustedLists
pub mod WrittenRun
pub mod RatioRuns
pub mod Adjusting
pub mod AdjustedListStatements
