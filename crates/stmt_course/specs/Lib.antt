pub mod Knowing
pub mod Keeping
pub mod Bringing
pub mod Planning
pub mod Defining
