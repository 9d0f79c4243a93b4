pub mod Leads
pub mod Exact
pub mod Stops
pub mod Unread
