pub mod Arenas
pub mod Shelves
pub mod BegunFiles
pub mod Libraries
pub mod Ticking
pub mod Untold
