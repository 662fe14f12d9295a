pub mod Budget
pub mod Issuers
pub mod Passing
pub mod Seeking
pub mod Windows
