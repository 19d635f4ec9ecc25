pub mod Sparse
pub mod Catalog
pub mod Shown
pub mod Views
pub mod Slots
