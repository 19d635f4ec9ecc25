mod Looping
mod FieldLemmas
mod EntryLemmas
pub mod LogLemmas
pub mod UndoneLemmas
pub mod UndonePagesLemmas
