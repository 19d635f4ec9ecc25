use Rattle.open_commits.proofs.JoinLemmas.{joined}
use Rattle.open_commits.proofs.law.a_commit_joins_tables.Goals as goal

pub returns : goal.returns
returns c = joined
