pub mod PasswordTexts
pub mod ExtensionRequest
pub mod CriAttribute
pub mod AttributeLaws
pub mod AttributeLookUps
pub mod RequestInfo
pub mod Request
pub mod Requested
