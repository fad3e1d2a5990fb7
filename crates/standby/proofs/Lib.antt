pub mod ArrivingLaws
pub mod LoadingLaws
pub mod KeepLaws
pub mod OwingLaws
