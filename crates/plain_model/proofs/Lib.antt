mod ReplyLemmas
mod LockLemmas
pub mod OrderLemmas
