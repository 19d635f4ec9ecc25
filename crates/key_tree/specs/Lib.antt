pub mod Seek
pub mod Sorting
