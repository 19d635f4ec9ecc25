pub mod Leaves
pub mod Entries
