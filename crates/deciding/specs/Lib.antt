pub mod Decisions
pub mod Texts
pub mod Questions
pub mod Steps
