pub mod Prints
pub mod Labels
pub mod Choices
pub mod Seen
pub mod ElementLines
