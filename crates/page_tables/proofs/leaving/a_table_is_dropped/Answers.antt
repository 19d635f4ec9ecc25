use Rattle.page_tables.proofs.DropLemmas.{dropped, dropped_go, freed, walked_pages}
use Rattle.page_tables.proofs.leaving.a_table_is_dropped.Goals as goal

pub returns-clause-go : goal.returns-clause-go
returns-clause-go c = dropped_go

pub returns-clause-base : goal.returns-clause-base
returns-clause-base c = dropped

pub returns-clause-free : goal.returns-clause-free
returns-clause-free c = λ counts s ds tables d claimed n edits empties pages p drops own. freed counts s ds tables d claimed n edits empties pages drops p own

pub returns-clause-walk : goal.returns-clause-walk
returns-clause-walk c = walked_pages
