use Rattle.std.proofs.Common.{◌∙◌}
use Rattle.std.proofs.lemmas.List.{get_or_default}
use Rattle.table_walk.proofs.VisitLemmas.{no_key, key_more}
use Rattle.table_walk.proofs.rows.key_set.Goals as goal

pub loop-key-init : goal.loop-key-init
loop-key-init c = λ q. no_key c.new-set.result q c.new-set.ensures

pub loop-key-preserved : goal.loop-key-preserved
loop-key-preserved c = λ q. key_more c.loop-key.set c.put.new.self c.args.keys.now c.loop-key.key-index c.in_ok-copy_row.field-0 _ q (c.loop-key.invariant q) c.loop-key-test.true (c.in_ok-copy_row.ensures ∙ c.key-item.is ∙ get_or_default c.args.keys.now c.loop-key.key-index c.key-item.result c.in_ok-copy_row.field-0 c.loop-key-test.true) c.in_ok-put.ensures.ok
