pub mod CallerLemmas
pub mod PlaceLemmas
pub mod SeenLemmas
pub mod ViewLemmas
pub mod SourceLemmas
pub mod DueLemmas
pub mod CutLemmas
pub mod PinLemmas
pub mod SetLemmas
mod OwedLemmas
mod SwapLemmas
mod GrowLemmas
mod ShrinkLemmas
