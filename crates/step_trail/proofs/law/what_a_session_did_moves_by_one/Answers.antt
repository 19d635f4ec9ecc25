use Rattle.step_trail.proofs.MoveLemmas.{kind_more, phase_more, present_more, left_more}
use Rattle.step_trail.proofs.law.what_a_session_did_moves_by_one.Goals as goal

pub returns-clause-kind : goal.returns-clause-kind
returns-clause-kind c = kind_more

pub returns-clause-phase : goal.returns-clause-phase
returns-clause-phase c = phase_more

pub returns-clause-present : goal.returns-clause-present
returns-clause-present c = present_more

pub returns-clause-left : goal.returns-clause-left
returns-clause-left c = left_more
