pub mod Account
pub mod TellLaws
pub mod HoldLaws
pub mod EntryLaws
