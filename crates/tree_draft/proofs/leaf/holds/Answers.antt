use Rattle.std.proofs.Common.{◌∙◌, sym}
use Rattle.tree_draft.proofs.LeafLemmas.{holds_none}
use Rattle.tree_draft.proofs.leaf.holds.Goals as goal

pub returns : goal.returns
returns c = sym (c.loop-slot.invariant ∙ holds_none c.args.cols.now c.args.key.now c.args.leaf.now c.loop-slot.slot-index c.loop-slot-test.false)
