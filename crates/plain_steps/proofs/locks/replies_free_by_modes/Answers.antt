use Rattle.plain_steps.proofs.ModeLemmas.{kept_table, kept_all_tables, kept_all_table}
use Rattle.plain_steps.proofs.locks.replies_free_by_modes.Goals as goal

pub returns-clause-table : goal.returns-clause-table
returns-clause-table c = kept_table

pub returns-clause-last : goal.returns-clause-last
returns-clause-last c = kept_all_tables

pub returns-clause-stays : goal.returns-clause-stays
returns-clause-stays c = kept_all_table
