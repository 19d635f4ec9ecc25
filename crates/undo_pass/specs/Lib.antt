pub mod Backs
pub mod Heals
pub mod Mending
