use Rattle.page_tables.proofs.CreatedLemmas.{created, created_go}
use Rattle.page_tables.proofs.coming.a_table_is_created.Goals as goal

pub returns-clause-go : goal.returns-clause-go
returns-clause-go c = created_go

pub returns-clause-base : goal.returns-clause-base
returns-clause-base c = created
