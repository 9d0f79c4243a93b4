pub mod Streams
pub mod Saving
pub mod Groups
pub mod StreamLaws
pub mod SavingLaws
pub mod Examples
pub mod BegunLaws
