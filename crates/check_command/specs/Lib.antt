pub mod CheckAnswers
pub mod CheckCommand
pub mod CheckLaws
pub mod CheckStages
pub mod CheckUnread
pub mod CheckWords
pub mod StatusText
