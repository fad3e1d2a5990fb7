pub mod ChangeLaws
pub mod AskLaws
pub mod KeepLaws
pub mod QuestionLaws
pub mod PlainLaws
pub mod AnswerLaws
