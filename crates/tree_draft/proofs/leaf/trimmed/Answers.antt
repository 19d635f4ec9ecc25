use Rattle.std.proofs.Common.{◌∙◌, ◌≡◌, subst, List, length, get_or, ◌-◌, ◌<◌, None}
use Rattle.std.specs.Prelude.{Option}
use Rattle.page_base.specs.declared.value.Value.{Value}
use Rattle.table_walk.specs.Leaves.{Leaf}
use Rattle.tree_draft.proofs.LeafLemmas.{trimmed_pop}
use Rattle.tree_draft.proofs.leaf.trimmed.Goals as goal

pub loop-leaf-preserved-in-loop-leaf-2 : goal.loop-leaf-preserved-in-loop-leaf-2
loop-leaf-preserved-in-loop-leaf-2 c =
    let yes : 0 < length c.loop-leaf.leaf.items = subst (λ (l : Leaf). 0 < length l) c.as_slice.ensures.value (c.ends_empty.ensures.yes c.loop-leaf-test.true) in
    let none : (d : Option (List Value)) → get_or c.loop-leaf.leaf.items (length c.loop-leaf.leaf.items - 1) d ≡ None = subst (λ (l : Leaf). (d : Option (List Value)) → get_or l (length l - 1) d ≡ None) c.as_slice.ensures.value (c.ends_empty.ensures.none c.loop-leaf-test.true) in
    c.loop-leaf.invariant ∙ trimmed_pop c.loop-leaf.leaf.items c.pop.new.self.items c.pop.result yes none c.pop.ensures.items
