pub mod Makings
pub mod NamedGraphs
pub mod Quotients
pub mod Samples
pub mod Sizes
pub mod TextbookCases
pub mod WeightedGraphs
