pub mod BatchLemmas
pub mod BareLemmas
pub mod PlaceLemmas
pub mod EachLemmas
pub mod LackLemmas
