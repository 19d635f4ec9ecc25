pub mod Committing
pub mod Answering
pub mod Saying
pub mod Refusing
pub mod Starting
pub mod Leaving
