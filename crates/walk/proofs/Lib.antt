pub mod Cases
pub mod WalkLaws
pub mod QueryLaws
pub mod SeeingLaws
