pub mod AtOnce
pub mod DecimalValues
pub mod LowestQuotients
pub mod Numerals
pub mod ReadBack
pub mod SameRatios
pub mod ShortNumbers
pub mod ShortTerms
