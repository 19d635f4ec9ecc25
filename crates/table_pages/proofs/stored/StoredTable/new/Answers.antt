use Rattle.table_pages.proofs.StoredLemmas.{stored-none}
use Rattle.table_pages.proofs.stored.StoredTable.new.Goals as goal

pub invariant_of-result : goal.invariant_of-result
invariant_of-result c = stored-none c.args.cols c.new.result.entries c.new.ensures.empty
