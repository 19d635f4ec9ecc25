pub mod Plan
pub mod Streams
pub mod Store
pub mod StoreLaws
pub mod KeptFile
pub mod Shelf
pub mod Out
pub mod VolumeState
