mod FrameLemmas
mod OrderLemmas
mod WrittenLemmas
mod EvictedLemmas
mod FiledLemmas
mod LoadedLemmas
mod UsedLemmas
mod StepLemmas
