-- Laws of values in lowest terms; whoever reads contracts can pass them by.
pub mod Unique
