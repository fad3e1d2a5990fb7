pub mod Unit
pub mod Calls
pub mod Claims
