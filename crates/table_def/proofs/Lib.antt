pub mod Written
pub mod FirstKey
pub mod Counting
pub mod Places
pub mod Good
