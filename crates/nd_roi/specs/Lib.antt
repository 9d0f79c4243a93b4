pub mod Cut
pub mod Groups
pub mod CutLaws
pub mod Region
pub mod RegionLaws
pub mod Rows
pub mod Walk
