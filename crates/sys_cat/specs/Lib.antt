pub mod Rows
pub mod Lists
pub mod Growing
pub mod Lines
pub mod Answers
pub mod Reading
pub mod Changing
