pub mod EndLaws
pub mod Drains
pub mod DrainSteps
