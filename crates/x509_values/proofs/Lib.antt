pub mod Purposes
pub mod FormOfYear
pub mod Comments
pub mod BigEndian
pub mod Plain
pub mod Fronts
pub mod Refusals
pub mod Written
