use Rattle.open_commits.proofs.AheadLemmas.{plans_joined}
use Rattle.open_commits.proofs.law.plans_outlive_a_commit.Goals as goal

pub returns : goal.returns
returns c = plans_joined
