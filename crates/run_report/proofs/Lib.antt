pub mod Standing
pub mod Leads
pub mod Readings
pub mod Reports
pub mod Offers
