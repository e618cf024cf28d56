pub mod Utf8
pub mod Complete
pub mod Tables
