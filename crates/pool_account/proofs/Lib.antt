pub mod Carrying
pub mod Ledgers
pub mod Bounds
pub mod Laws
