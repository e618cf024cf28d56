pub mod Fine
pub mod Answer
