pub mod WordLaws
pub mod RecordLaws
pub mod WrittenLaws
pub mod FirstLaws
pub mod SpellingLaws
pub mod WritingLaws
pub mod ReadingLaws
pub mod NumberedLaws
