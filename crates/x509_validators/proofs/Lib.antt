pub mod Among
pub mod Names
pub mod Viewed
pub mod Findings
pub mod Kept
pub mod Logs
