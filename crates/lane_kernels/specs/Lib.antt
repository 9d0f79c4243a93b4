pub mod Plain
pub mod Lanes
