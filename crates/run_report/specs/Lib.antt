pub mod Report
pub mod Text
pub mod Backwards
pub mod Tallies
pub mod Tallied
pub mod Laws
pub mod WorkedReports
