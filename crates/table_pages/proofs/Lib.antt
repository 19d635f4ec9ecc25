pub mod CollectLemmas
mod OrderLemmas
mod IndexLemmas
mod NameLemmas
mod NumberLemmas
mod KeyedLemmas
mod StoredLemmas
mod KeyLemmas
mod WriteLemmas
mod RowLemmas
mod HeaderLemmas
pub mod PageLemmas
pub mod HeldLemmas
pub mod CallerLemmas
mod FoundLemmas
mod RoomLemmas
mod PlanLemmas
mod DoneLemmas
mod FullLemmas
mod DraftLemmas
mod PassLemmas
mod ChangeLemmas
mod SizeLemmas
