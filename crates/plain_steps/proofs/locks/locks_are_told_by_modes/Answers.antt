use Rattle.plain_steps.proofs.ModeLemmas.{holds_mode, way_mode}
use Rattle.plain_steps.proofs.locks.locks_are_told_by_modes.Goals as goal

pub returns-clause-holds : goal.returns-clause-holds
returns-clause-holds c = holds_mode

pub returns-clause-way : goal.returns-clause-way
returns-clause-way c = way_mode
