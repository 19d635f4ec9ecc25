use Rattle.table_walk.proofs.ClaimLemmas.{carries_claimed}
use Rattle.table_walk.proofs.law.plans_depend_on_the_claimed_pages.Goals as goal

pub returns : goal.returns
returns c = carries_claimed
