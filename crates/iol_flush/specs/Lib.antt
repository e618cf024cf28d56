pub mod Stages
pub mod Steps
pub mod Flushing
pub mod Turns
