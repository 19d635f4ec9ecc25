use Rattle.stmt_prog.proofs.NeedLemmas.{lock_stage, visit_stage, plan_stage, claim_stage, edit_stage, finish_stage}
use Rattle.stmt_prog.proofs.law.needs_tell_the_stage.Goals as goal

pub returns-clause-lock : goal.returns-clause-lock
returns-clause-lock c = lock_stage

pub returns-clause-visit : goal.returns-clause-visit
returns-clause-visit c = visit_stage

pub returns-clause-plan : goal.returns-clause-plan
returns-clause-plan c = plan_stage

pub returns-clause-claim : goal.returns-clause-claim
returns-clause-claim c = claim_stage

pub returns-clause-edit : goal.returns-clause-edit
returns-clause-edit c = edit_stage

pub returns-clause-finish : goal.returns-clause-finish
returns-clause-finish c = finish_stage
