mod GotLemmas
mod SwapLemmas
mod ShowLemmas
mod HeldLemmas
mod RefusedLemmas
