pub mod ExtensionEvents
pub mod ExtensionVisits
pub mod CertificateEvents
pub mod CertificateVisits
pub mod ListEvents
pub mod ListVisits
