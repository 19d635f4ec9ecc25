use Rattle.table_walk.proofs.PlanLemmas.{carries_same}
use Rattle.table_walk.proofs.law.plans_depend_on_owned_pages.Goals as goal

pub returns : goal.returns
returns c = carries_same
