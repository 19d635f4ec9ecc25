use Rattle.page_tables.proofs.BaseLemmas.{rows_same_pages, rows_of_others}
use Rattle.page_tables.proofs.law.tables_depend_on_their_pages.Goals as goal

pub returns-clause-same : goal.returns-clause-same
returns-clause-same c = rows_same_pages

pub returns-clause-edit : goal.returns-clause-edit
returns-clause-edit c = rows_of_others
