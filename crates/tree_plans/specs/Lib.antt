pub mod Planning
pub mod Drawn
