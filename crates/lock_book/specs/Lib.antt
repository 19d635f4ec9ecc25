pub mod Modes
pub mod Locks
pub mod Taking
pub mod Inside
