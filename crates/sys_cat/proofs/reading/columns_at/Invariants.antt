use Rattle.sys_cat.proofs.ReadLemmas.{Reads}
use Rattle.sys_cat.proofs.reading.columns_at.Given as goal

abbrev pub invariant-loop-row : goal.invariant-loop-row
invariant-loop-row l = Reads l.name l.rows l.row-index l.cols.items
