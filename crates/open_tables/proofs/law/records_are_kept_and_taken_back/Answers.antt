use Rattle.open_tables.proofs.BackLemmas.{pushed, popped}
use Rattle.open_tables.proofs.law.records_are_kept_and_taken_back.Goals as goal

pub returns-clause-kept : goal.returns-clause-kept
returns-clause-kept c = pushed

pub returns-clause-taken : goal.returns-clause-taken
returns-clause-taken c = popped
