pub mod Asked
pub mod Counts
pub mod Given
pub mod Graphs
pub mod Table
pub mod WordBytes
pub mod WordParts
pub mod Words
