pub mod ActionLaws
pub mod DecisionLaws
pub mod FittingLaws
pub mod TextLaws
pub mod QuestionLaws
