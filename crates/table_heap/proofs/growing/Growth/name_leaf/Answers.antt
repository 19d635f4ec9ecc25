use Rattle.table_heap.proofs.GrowingLemmas.{growing_leaf}
use Rattle.table_heap.proofs.growing.Growth.name_leaf.Goals as goal

pub returns : goal.returns
returns c = λ spot count n g. growing_leaf spot count n c.args.leaf c.args.self.now c.push.new.self c.push-2.new.self g c.requires c.in_ok-push.ensures.ok c.in_ok-push-2.ensures.ok
