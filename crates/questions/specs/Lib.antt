pub mod Questions
pub mod Search
pub mod Refusals
