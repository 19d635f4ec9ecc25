pub mod Pool
pub mod Order
pub mod Steps
pub mod Refusing
pub mod Calls
