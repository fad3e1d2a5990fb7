pub mod Numbers
pub mod Exports
