use Rattle.open_commits.proofs.WithinLemmas.{table_back, table_on}
use Rattle.open_commits.proofs.law.records_of_others_leave_a_table.Goals as goal

pub returns-clause-back : goal.returns-clause-back
returns-clause-back c = λ counts writes s records cols number root rows lie tell out small t. table_back counts writes s records lie tell number out small cols root rows t

pub returns-clause-on : goal.returns-clause-on
returns-clause-on c = λ counts writes s records cols number root rows lie tell out small t. table_on counts writes s records lie tell number out small cols root rows t
