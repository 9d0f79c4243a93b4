pub mod Arrays
pub mod Depths
pub mod Found
pub mod Makers
pub mod Regions
pub mod Rules
pub mod Windows
