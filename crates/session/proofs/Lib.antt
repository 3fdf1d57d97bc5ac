pub mod Calls
pub mod Limits
pub mod Readiness
