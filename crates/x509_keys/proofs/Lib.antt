pub mod Numbers
pub mod UnknownKey
pub mod ParsedKey
pub mod ParametersRead
pub mod SignatureRead
