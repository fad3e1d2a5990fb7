pub mod HoldingLaws
pub mod PartLaws
pub mod LineLaws
pub mod InputLaws
pub mod KeepLaws
mod Examples
