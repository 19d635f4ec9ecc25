pub mod Good
pub mod Modes
pub mod Phases
pub mod Events
pub mod Changes
pub mod Orderly
