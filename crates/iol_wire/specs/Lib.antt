pub mod Events
pub mod Hearing
pub mod Lines
pub mod Numeral
pub mod Requests
pub mod Transport
pub mod Wire
pub mod Words
