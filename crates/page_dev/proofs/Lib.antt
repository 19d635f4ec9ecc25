pub mod FilesLemmas
pub mod PageFileLemmas
pub mod OutLemmas
