pub mod Numbers
pub mod Records
pub mod Words
pub mod Answers
pub mod Steps
