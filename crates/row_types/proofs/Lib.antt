mod TypeLemmas
mod RowLemmas
mod StandLemmas
mod TakingLemmas
mod KeyLemmas
mod InsertLemmas
mod UpdateLemmas
pub mod SizeLemmas
pub mod PutLemmas
