pub mod Name
pub mod FileName
pub mod Stored
pub mod Order
pub mod Pages
pub mod Slots
pub mod Places
pub mod Reading
