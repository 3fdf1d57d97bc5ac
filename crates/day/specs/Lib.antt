pub mod Faults
pub mod Rulings
pub mod Running
pub mod Ran
pub mod Course
