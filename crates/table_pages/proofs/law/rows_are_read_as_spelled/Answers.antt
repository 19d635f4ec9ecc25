use Rattle.table_pages.proofs.RowLemmas.{row_is_read, row_is_spelled}
use Rattle.table_pages.proofs.law.rows_are_read_as_spelled.Goals as goal

pub returns-clause-read : goal.returns-clause-read
returns-clause-read c = row_is_spelled

pub returns-clause-spelled : goal.returns-clause-spelled
returns-clause-spelled c = row_is_read
