pub mod EvidenceNames
pub mod FirstSets
pub mod ListedLines
pub mod LooksOfCase
pub mod OfCase
pub mod SetReports
