pub mod Keys
pub mod InOrder
pub mod StopLemmas
