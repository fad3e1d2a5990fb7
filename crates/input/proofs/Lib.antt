pub mod WordLaws
pub mod PartLaws
