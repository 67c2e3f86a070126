-- Laws that each double has a reading, on which the definition of `reading_of` depends. A reader of contracts can skip them.
pub mod Doubles
pub mod Grids
pub mod Multiples
pub mod Nearest
pub mod Total
pub mod Values
