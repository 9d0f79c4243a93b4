mod Prefixes
pub mod Growth
mod Sums
mod Roles
mod Queue
mod SetView
mod Waiting
mod Turn
mod Seats
mod Closing
mod Dealing
mod Counts
