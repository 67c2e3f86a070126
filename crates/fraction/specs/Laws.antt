-- Laws that the kind of the fractions rests on; whoever reads contracts can pass them by.
pub mod CrossProducts
pub mod ExactTerms
pub mod Order
pub mod PlainLaws
pub mod PlainLimits
pub mod Reduced
pub mod Turned
pub mod WrittenLaws
