pub mod KeyLemmas
pub mod TakingLemmas
pub mod GatheringLemmas
pub mod TotalLemmas
pub mod KeysLemmas
pub mod InsertingLemmas
pub mod TableLemmas
