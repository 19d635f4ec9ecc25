pub mod Finding
pub mod LawLemmas
pub mod SortLemmas
pub mod RowOrder
