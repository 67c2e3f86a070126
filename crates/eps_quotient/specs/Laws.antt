-- Laws that the kind of the quotients rests on; whoever reads contracts can pass them by.
pub mod Cores
pub mod Cuts
pub mod Exact
pub mod LimitTerms
pub mod LowerLaws
pub mod Multiples
pub mod NormAgain
pub mod NormLaws
pub mod QuotientLaws
