pub mod Handover
pub mod Witness
pub mod Wrong
