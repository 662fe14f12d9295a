pub mod Certificates
pub mod Conclusions
pub mod Elements
pub mod Linting
pub mod Refusals
pub mod Requests
pub mod Revocation
pub mod Visiting
