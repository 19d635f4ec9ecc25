use Rattle.table_walk.proofs.VisitLemmas.{one_known}
use Rattle.table_walk.proofs.rows.one_key.Goals as goal

pub returns : goal.returns
returns c = one_known c.put.new.self c.new-set.result c.args.key.now c.in_ok-copy_row.field-0 _ c.in_ok-put.ensures.ok c.in_ok-copy_row.ensures
