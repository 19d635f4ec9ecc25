pub mod Refusing
pub mod Given
pub mod Keys
pub mod Verdicts
