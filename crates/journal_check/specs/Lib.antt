pub mod Verdicts
pub mod VerdictLaws
pub mod Steps
pub mod Tries
