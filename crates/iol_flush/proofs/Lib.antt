pub mod Keeping
pub mod Steps
pub mod RunLaws
pub mod Turns
