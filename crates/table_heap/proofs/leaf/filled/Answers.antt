use Rattle.std.proofs.lemmas.Bool.{iff_false}
use Rattle.table_heap.proofs.SlotsLemmas.{filled_full, filled_empty}
use Rattle.table_heap.proofs.leaf.filled.Goals as goal

pub loop-i-preserved-then-is_empty : goal.loop-i-preserved-then-is_empty
loop-i-preserved-then-is_empty c =
    filled_empty c.args.slots.now c.loop-i.i c.loop-i.filled c.index-slots-i.result c.loop-i-test.true c.index-slots-i.is (c.is_empty.ensures.0 c.if-is_empty.true) c.loop-i.invariant

pub loop-i-preserved : goal.loop-i-preserved
loop-i-preserved c =
    filled_full c.args.slots.now c.loop-i.i c.index-slots-i.result c.loop-i-test.true c.index-slots-i.is (λ e. iff_false c.is_empty.ensures c.if-is_empty.false e)
