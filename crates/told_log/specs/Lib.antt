pub mod ToldLogs
pub mod Inside
pub mod ReclaimLaws
