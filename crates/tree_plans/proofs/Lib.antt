pub mod Closed
pub mod DrawnLemmas
