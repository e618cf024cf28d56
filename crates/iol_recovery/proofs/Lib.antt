pub mod Parts
pub mod PortReadings
pub mod Readings
pub mod Recovered
pub mod Replays
pub mod SlotLogs
pub mod Snapshots
pub mod Wants
