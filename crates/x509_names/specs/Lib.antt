pub mod Names
pub mod NameTexts
pub mod Objects
pub mod Registry
pub mod Full
pub mod Arcs
pub mod DottedRefusals
pub mod DottedParsing
