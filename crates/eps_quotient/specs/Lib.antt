pub mod Laws
pub mod Lowering
pub mod Polynomials
pub mod Quotients
pub mod Spelling
pub mod Stored
pub mod Texts
pub mod View
