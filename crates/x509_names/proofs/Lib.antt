pub mod Joins
pub mod Lossy
pub mod Present
pub mod Texts
pub mod Units
pub mod Written
mod Entries
mod Rows
pub mod Numerals
pub mod DottedOctets
pub mod DottedParts
pub mod Decoded
pub mod DottedTexts
