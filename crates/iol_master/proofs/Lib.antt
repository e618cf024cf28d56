mod Waiting
pub mod Notices
mod Since
mod Ends
mod Reading
mod WaitsForMemory
mod SeenLater
mod ServedOver
