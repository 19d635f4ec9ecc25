use Rattle.std.proofs.Common.{◌≡◌, ◌++◌}
use Rattle.tree_draft.proofs.PartLemmas.{FilledSoFar}
use Rattle.tree_draft.proofs.parts.filled.Given as goal

abbrev pub invariant-loop-item : goal.invariant-loop-item
invariant-loop-item g l = FilledSoFar g.T.Takes.size l.all l.yielded l.parts.items l.part l.left × (l.fn.items.items ≡ l.yielded ++ l.item-iterator.rest.items)
