pub mod Ends
pub mod Machine
pub mod Named
pub mod Spent
pub mod Taken
