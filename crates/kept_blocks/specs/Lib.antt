pub mod Keeping
pub mod LookLaws
pub mod GrantLaws
pub mod MoveLaws
