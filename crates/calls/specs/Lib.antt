pub mod Calls
pub mod Changes
pub mod Steps
