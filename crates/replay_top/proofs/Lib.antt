pub mod CheckedRuns
pub mod DemoLimits
pub mod DemoRuns
pub mod FileNames
pub mod KeptRuns
pub mod MeasuredRows
pub mod MeasureRows
pub mod RunLaws
pub mod RunStops
pub mod RunClaims
pub mod SmoothFiles
mod Sends
