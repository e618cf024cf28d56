pub mod ToldLines
pub mod ReadRequests
pub mod ChangedOctets
mod Causes
