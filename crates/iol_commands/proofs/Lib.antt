pub mod ImageLaws
pub mod SaidParameters
pub mod SaidDevices
pub mod Accepted
pub mod TraceLines
pub mod Playing
