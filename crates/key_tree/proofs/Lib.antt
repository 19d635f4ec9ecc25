pub mod EntryLemmas
pub mod SortLemmas
pub mod ChosenLemmas
pub mod KeyLemmas
pub mod NewRootLemmas
pub mod ReadLemmas
