pub mod ByDealer
pub mod Passes
pub mod Standing
