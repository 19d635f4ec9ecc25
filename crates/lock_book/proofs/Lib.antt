pub mod LockLemmas
mod Blockers
mod Places
mod Takes
