pub mod Moments
pub mod Spelling
pub mod Octets
pub mod TimeText
pub mod OffsetDateTimes
pub mod Rfc2822
pub mod Rfc3339
