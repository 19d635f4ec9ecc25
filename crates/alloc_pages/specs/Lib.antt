pub mod Spots
pub mod Owners
