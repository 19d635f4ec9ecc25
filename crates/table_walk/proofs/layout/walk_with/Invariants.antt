use Rattle.std.proofs.Common.{reverse}
use Rattle.table_walk.proofs.WalkLemmas.{UnderWay, unmarked}
use Rattle.table_walk.proofs.layout.walk_with.Given as goal

abbrev pub invariant-loop-visit : goal.invariant-loop-visit
invariant-loop-visit g l = UnderWay (g.L.Layout.kids l.layout) l.seen l.fn.start l.done.items (reverse l.todo.items) l.marked.items

abbrev pub decreases-loop-visit : goal.decreases-loop-visit
decreases-loop-visit g l = unmarked l.marked.items
