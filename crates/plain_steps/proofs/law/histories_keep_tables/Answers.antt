use Rattle.plain_steps.proofs.KeepLemmas.{are_kept_good}
use Rattle.plain_steps.proofs.law.histories_keep_tables.Goals as goal

pub returns : goal.returns
returns c = are_kept_good
