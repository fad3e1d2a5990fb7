pub mod Text
pub mod Escaping
