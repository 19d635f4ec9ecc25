pub mod Open
pub mod Moves
