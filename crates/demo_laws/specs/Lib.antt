pub mod Ample
pub mod AmpleLaws
pub mod Reports
pub mod Demo
pub mod DemoLaws
pub mod WorkedAmple
