pub mod Given
pub mod Typed
pub mod Laws
