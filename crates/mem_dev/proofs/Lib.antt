mod CountDown
pub mod NameMapLemmas
pub mod FolderLemmas
pub mod StoreLemmas
pub mod OutLemmas
pub mod CallerLemmas
