pub mod Telling
pub mod ReadFronts
pub mod LineFronts
pub mod Backwards
pub mod Watching
