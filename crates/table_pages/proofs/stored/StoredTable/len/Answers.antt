use Rattle.table_pages.proofs.StoredLemmas.{stored-len}
use Rattle.table_pages.proofs.stored.StoredTable.len.Goals as goal

pub returns : goal.returns
returns c = stored-len _ _ _ _ c.self.view_is c.len.ensures.ordered c.len.ensures.len
