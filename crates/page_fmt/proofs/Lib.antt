pub mod SpellingLemmas
pub mod ReadingLemmas
pub mod SlotLemmas
pub mod CallerLemmas
mod OffsetLemmas
mod PlaceLemmas
mod ReplaceLemmas
mod PaddingLemmas
mod SetLemmas
mod PutLemmas
mod MovingLemmas
mod SplicingLemmas
mod CheckLemmas
pub mod SeenLemmas
pub mod BridgeLemmas
