use Rattle.table_walk.proofs.PlanLemmas.{carries_on}
use Rattle.table_walk.proofs.law.plans_are_carried_on.Goals as goal

pub returns : goal.returns
returns c = record {
  first = λ shape cols start claimed n at owns e edits rows k. (k.go.0, k.within.0);
  later = carries_on;
  last = λ shape cols start claimed n at owns rows k. k.table;
}
