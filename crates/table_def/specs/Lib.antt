pub mod Parts
pub mod Options
pub mod Kinds
pub mod Keys
pub mod Faults
pub mod Defined
