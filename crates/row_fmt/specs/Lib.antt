pub mod Rows
pub mod Reading
pub mod Answers
pub mod Keys
