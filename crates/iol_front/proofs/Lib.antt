pub mod Prefixes
pub mod Steps
