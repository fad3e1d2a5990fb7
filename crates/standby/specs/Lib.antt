pub mod Arriving
pub mod Loading
pub mod Owing
pub mod Steps
