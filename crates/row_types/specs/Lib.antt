pub mod Puts
pub mod Fitting
pub mod Limits
