pub mod LatchLemmas
mod InTheWay
