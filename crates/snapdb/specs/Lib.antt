pub mod Headline
pub mod Refusing
pub mod Runs
pub mod Closed
