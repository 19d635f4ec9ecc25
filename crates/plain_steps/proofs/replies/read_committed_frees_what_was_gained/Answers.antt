use Rattle.plain_steps.proofs.FreedLemmas.{tables_freed, all_freed, gain_counts}
use Rattle.plain_steps.proofs.replies.read_committed_frees_what_was_gained.Goals as goal

pub returns-clause-tables : goal.returns-clause-tables
returns-clause-tables c = tables_freed

pub returns-clause-last : goal.returns-clause-last
returns-clause-last c = all_freed

pub returns-clause-gains : goal.returns-clause-gains
returns-clause-gains c = gain_counts
