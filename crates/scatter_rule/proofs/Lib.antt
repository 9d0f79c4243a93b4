mod Places
pub mod Children
