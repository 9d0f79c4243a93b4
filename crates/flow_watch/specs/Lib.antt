pub mod SeenLines
pub mod Reads
