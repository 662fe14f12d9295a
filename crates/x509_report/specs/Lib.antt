pub mod Texts
pub mod Told
pub mod Views
pub mod Dumps
pub mod Objects
pub mod Labels
pub mod Files
