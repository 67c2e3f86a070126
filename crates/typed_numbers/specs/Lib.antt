-- Laws that the definition of `reading_of` rests on; whoever reads contracts can pass them by.
pub mod Laws
pub mod Intervals
pub mod Promises
pub mod Readings
pub mod Rounding
pub mod Rules
pub mod Searches
