pub mod OpenLaws
pub mod ActLaws
pub mod CallLaws
pub mod Operator
pub mod StepLaws
pub mod Needed
pub mod Witness
pub mod Wrong
