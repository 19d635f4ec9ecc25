pub mod LeafLemmas
pub mod PartLemmas
pub mod OrderLemmas
pub mod ScanLemmas
