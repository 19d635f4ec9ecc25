pub mod Shown
pub mod Views
pub mod Places
pub mod Dues
pub mod Slots
pub mod Owed
pub mod Cuts
pub mod Steps
