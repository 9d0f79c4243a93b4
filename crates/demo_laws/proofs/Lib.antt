pub mod Recorded
pub mod Flushing
pub mod InStep
pub mod SortedRuns
pub mod AmpleRuns
pub mod Reports
pub mod Demos
