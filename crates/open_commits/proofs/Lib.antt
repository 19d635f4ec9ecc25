pub mod WithinLemmas
pub mod StandLemmas
pub mod JoinLemmas
pub mod AheadLemmas
pub mod ApartLemmas
