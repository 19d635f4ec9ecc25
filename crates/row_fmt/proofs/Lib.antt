pub mod BitLemmas
pub mod FieldLemmas
pub mod RowLemmas
pub mod NullLemmas
pub mod SizeLemmas
pub mod WritingLemmas
pub mod KeyLemmas
