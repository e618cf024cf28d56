mod InOrder
pub mod Depth
pub mod Plain
