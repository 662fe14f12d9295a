pub mod Counted
pub mod Found
pub mod Shown
pub mod Split
pub mod Written
pub mod Joined
pub mod Plain
pub mod Markup
