pub mod ChangedStacks
pub mod Gathered
pub mod TurnedShapes
