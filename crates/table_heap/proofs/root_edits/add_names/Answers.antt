use Rattle.table_heap.proofs.GrowingLemmas.{names_more}
use Rattle.table_heap.proofs.root_edits.add_names.Goals as goal

pub loop-i-preserved : goal.loop-i-preserved
loop-i-preserved c =
    names_more c.args.spot c.args.first c.args.names.now c.loop-i.i c.args.edits.now c.loop-i.edits c.push.new.self c.naming.result c.loop-i.invariant c.loop-i-test.true c.naming.ensures c.in_ok-push.ensures.ok
