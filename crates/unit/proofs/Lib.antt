pub mod UnitLaws
pub mod ClaimLaws
