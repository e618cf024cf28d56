pub mod Places
mod Queues
mod Permits
pub mod Standing
mod Longest
mod Keeping
pub mod Words
pub mod Own
pub mod Links
pub mod CrashPrefix
