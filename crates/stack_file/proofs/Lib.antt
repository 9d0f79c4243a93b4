pub mod Parts
pub mod Changing
pub mod Gathering
pub mod Writing
