pub mod Walk
pub mod Calls
pub mod Seeing
pub mod Cases
