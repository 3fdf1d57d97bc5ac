pub mod Bytes
pub mod Formats
pub mod Fronts
pub mod Trips
