pub mod Answers
pub mod Serials
pub mod Stops
pub mod Issuers
pub mod Search
pub mod Reports
pub mod Runs
