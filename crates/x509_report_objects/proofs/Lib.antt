pub mod Attempted
pub mod OnlyParsed
pub mod Counts
pub mod Members
pub mod Refused
