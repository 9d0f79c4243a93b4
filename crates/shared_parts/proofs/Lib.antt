pub mod Names
pub mod Fields
pub mod Shares
pub mod Steps
