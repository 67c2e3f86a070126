-- Laws that the definitions rest on; whoever reads contracts can pass them by.
pub mod Together
pub mod ClearingLaws
pub mod ByOne
pub mod RowNumbers
pub mod RowPasses
pub mod RowLive
pub mod RowGraphs
pub mod RowsExact
pub mod GatheringLaws
pub mod OpenedRows
