pub mod CutSnaps
pub mod OwingLemmas
pub mod CutWhole
pub mod CutTold
pub mod CutKeeps
