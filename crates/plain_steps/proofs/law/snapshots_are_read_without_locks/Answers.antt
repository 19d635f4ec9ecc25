use Rattle.plain_steps.proofs.UnlockedLemmas.{are_unlocked}
use Rattle.plain_steps.proofs.law.snapshots_are_read_without_locks.Goals as goal

pub returns : goal.returns
returns c = are_unlocked
