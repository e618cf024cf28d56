pub mod Parameters
pub mod Refusal
pub mod Device
pub mod SimLink
pub mod Script
pub mod Examples
