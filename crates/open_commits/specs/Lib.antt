pub mod Within
pub mod Joins
