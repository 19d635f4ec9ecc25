pub mod Numbers
pub mod LowNames
pub mod FieldLemmas
