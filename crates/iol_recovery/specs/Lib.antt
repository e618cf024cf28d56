pub mod Faults
pub mod Finding
pub mod Reading
pub mod Replay
pub mod Survey
pub mod Wants
