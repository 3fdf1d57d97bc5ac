pub mod Layout
pub mod Reading
pub mod Forms
pub mod Formats
pub mod Parts
pub mod Inverses
pub mod EventFormat
pub mod TapeFormat
