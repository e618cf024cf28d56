pub mod Logs
pub mod Openings
pub mod Segments
pub mod Turns
