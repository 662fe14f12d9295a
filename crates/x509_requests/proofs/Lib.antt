pub mod FourOctets
pub mod Windows
pub mod ElementSizes
pub mod AttributeMarks
