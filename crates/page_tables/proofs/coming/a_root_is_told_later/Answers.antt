use Rattle.page_tables.proofs.LayoutLemmas.{on_rows}
use Rattle.page_tables.proofs.RootLemmas.{told_later}
use Rattle.page_tables.proofs.coming.a_root_is_told_later.Goals as goal

pub returns-clause-plan : goal.returns-clause-plan
returns-clause-plan c = told_later

pub returns-clause-rows : goal.returns-clause-rows
returns-clause-rows c = on_rows
