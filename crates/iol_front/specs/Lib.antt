pub mod Fronts
pub mod Seats
pub mod Rule
