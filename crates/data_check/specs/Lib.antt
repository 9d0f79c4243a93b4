pub mod ComparedFiles
pub mod ComparedLaws
pub mod Histories
pub mod Fronts
pub mod Rows
