pub mod Verb
pub mod Request
pub mod Key
pub mod Words
pub mod Id
pub mod Json
pub mod Line
pub mod Examples
