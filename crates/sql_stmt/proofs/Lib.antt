pub mod Batches
pub mod AnswerLemmas
pub mod ListLemmas
pub mod CountLemmas
pub mod SoundLemmas
pub mod MeantLemmas
