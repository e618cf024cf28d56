pub mod Hexadecimal
pub mod OctetLines
pub mod PortLines
