pub mod RulesOf
pub mod Starts
pub mod Listing
pub mod Due
pub mod Windows
