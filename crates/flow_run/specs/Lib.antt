pub mod Strangers
pub mod Ticks
pub mod Seats
pub mod Joined
pub mod RunFiles
pub mod SaverEnds
pub mod RunNotes
pub mod Runs
