pub mod Holding
pub mod Input
pub mod Lines
