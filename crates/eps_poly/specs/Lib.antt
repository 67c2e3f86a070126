pub mod ExactQuotients
pub mod Factors
pub mod Polynomials
pub mod Written
