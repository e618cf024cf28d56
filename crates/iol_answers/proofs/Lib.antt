pub mod TextsInOrder
pub mod Printed
pub mod Plain
pub mod Shallow
