pub mod LastNotes
pub mod NoteLogs
pub mod Registers
pub mod Monitors
