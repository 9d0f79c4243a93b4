pub mod FrameBlocks
pub mod Courses
pub mod Leaving
pub mod Puts
pub mod Placing
pub mod Watched
