use Rattle.std.proofs.Common.{◌≢◌, ◌∙◌}
use Rattle.table_walk.proofs.KeyLemmas.{key_cell-past}
use Rattle.table_walk.proofs.key.key_cell.Goals as goal

pub loop-i-preserved : goal.loop-i-preserved
loop-i-preserved c =
    let other : c.index-cols-i.result.key ≢ c.args.place = λ e. c.if-from-place.false (c.from.ensures ∙ e) in
    c.loop-i.invariant ∙ key_cell-past _ _ c.loop-i.i c.args.place c.index-cols-i.result c.loop-i-test.true c.index-cols-i.is other
