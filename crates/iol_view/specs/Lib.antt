pub mod Json
pub mod Map
