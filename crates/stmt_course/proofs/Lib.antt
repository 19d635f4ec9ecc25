pub mod StandLemmas
pub mod ApplyLemmas
pub mod BringLemmas
pub mod SpreadLemmas
pub mod ComingLemmas
pub mod TableLemmas
