pub mod Numbers
pub mod Fields
pub mod Names
pub mod Reading
pub mod Answers
pub mod Laws
