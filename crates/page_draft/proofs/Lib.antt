pub mod DraftLemmas
pub mod CodeLemmas
pub mod MadeLemmas
