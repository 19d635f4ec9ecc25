pub mod Setting
pub mod Changing
pub mod Claiming
pub mod Backing
pub mod Pushing
