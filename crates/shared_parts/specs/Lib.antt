pub mod Ownership
