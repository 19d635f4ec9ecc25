pub mod Cutting
pub mod Healing
pub mod Reverting
pub mod Dropping
