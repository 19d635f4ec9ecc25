use Rattle.plain_steps.proofs.ApplyLemmas.{get_apply, rows_stay, cols_stay}
use Rattle.plain_steps.proofs.tables.changes_are_of_one_table.Goals as goal

pub returns-clause-same : goal.returns-clause-same
returns-clause-same c = get_apply

pub returns-clause-others : goal.returns-clause-others
returns-clause-others c = rows_stay

pub returns-clause-columns : goal.returns-clause-columns
returns-clause-columns c = cols_stay
