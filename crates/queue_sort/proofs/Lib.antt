pub mod ById
mod InboxRuns
mod Order
mod Looks
mod Runs
