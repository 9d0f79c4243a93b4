mod Blocks
mod BytePairs
mod Ends
mod Leasts
mod Middles
mod Narrow
mod Rows
mod Samples
pub mod Slices
mod Squares
mod Summed
mod Twos
pub mod Wraps
