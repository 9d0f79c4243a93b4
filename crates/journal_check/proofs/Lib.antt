pub mod Verdicts
pub mod Following
pub mod Moving
pub mod Refusals
pub mod Jobs
pub mod Runs
pub mod StatsMeasures
pub mod Alike
