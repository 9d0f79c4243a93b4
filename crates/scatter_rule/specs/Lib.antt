pub mod Rounds
pub mod Worked
