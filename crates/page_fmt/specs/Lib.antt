pub mod Spelling
pub mod Content
pub mod Edits
pub mod Faults
pub mod Places
pub mod Seen
pub mod Bridge
