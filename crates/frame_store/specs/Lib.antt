pub mod Sealed
pub mod Lending
pub mod WorkedRun
