pub mod Texts
pub mod Recovered
pub mod ErrorTypes
pub mod Failures
pub mod Refusals
pub mod Rows
pub mod Statuses
