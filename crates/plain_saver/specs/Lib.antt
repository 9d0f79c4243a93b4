pub mod Passes
pub mod Ahead
pub mod Texts
pub mod Saved
pub mod BegunRows
pub mod Rooms
pub mod Sources
pub mod TornRuns
