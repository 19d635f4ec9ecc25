use Rattle.step_trail.proofs.NextLemmas.{latch_holds_none, none_held}
use Rattle.step_trail.proofs.law.who_needs_a_latch_holds_none.Goals as goal

pub returns-clause-its : goal.returns-clause-its
returns-clause-its c = latch_holds_none

pub returns-clause-all : goal.returns-clause-all
returns-clause-all c = none_held
