pub mod RealDates
pub mod Instants
pub mod Spellings
