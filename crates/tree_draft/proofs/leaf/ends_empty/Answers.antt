use Rattle.std.proofs.Common.{◌∙◌}
use Rattle.tree_draft.proofs.LeafLemmas.{trimmed_full, some_long, is_some_slot}
use Rattle.tree_draft.proofs.leaf.ends_empty.Goals as goal

pub returns-clause-no : goal.returns-clause-no
returns-clause-no c = λ no.
    trimmed_full c.args.leaf.now c.index-leaf-leaf.result (some_long c.args.leaf.now c.is_empty.result c.is_empty.ensures c.if-is_empty.false) (λ e. is_some_slot c.index-leaf-leaf.result c.is_none.result c.is_none.ensures no (c.index-leaf-leaf.is ∙ e))
