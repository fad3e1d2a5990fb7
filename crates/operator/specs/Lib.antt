pub mod Operator
pub mod Needed
pub mod Witness
pub mod Wrong
