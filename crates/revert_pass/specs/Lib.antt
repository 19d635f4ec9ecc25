pub mod Got
pub mod Gathers
