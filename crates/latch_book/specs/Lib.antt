pub mod Modes
pub mod Latches
pub mod Inside
