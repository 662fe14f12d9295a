pub mod Comments
pub mod Messages
pub mod Numbered
pub mod Ranks
pub mod Rows
pub mod Rules
pub mod Telling
pub mod Words
