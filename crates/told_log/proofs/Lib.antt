pub mod Told
pub mod Reclaims
