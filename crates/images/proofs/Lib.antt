pub mod ImageLaws
pub mod WrittenLaws
pub mod ReadingLaws
pub mod WritingLaws
pub mod LoadingLaws
