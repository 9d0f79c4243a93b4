pub mod Emissions
pub mod Outs
pub mod Ticks
