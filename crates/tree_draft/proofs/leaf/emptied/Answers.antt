use Rattle.std.proofs.Common.{◌∙◌, ◌++◌, ◌∷◌, [], ap, sym, None}
use Rattle.table_walk.specs.Leaves.{has, Leaf}
use Rattle.tree_draft.proofs.LeafLemmas.{changed_last, taken, left_as_is}
use Rattle.tree_draft.proofs.leaf.emptied.Goals as goal

pub loop-slot-preserved-then-branch : goal.loop-slot-preserved-then-branch
loop-slot-preserved-then-branch c =
    c.in_ok-push.ensures.items ∙ ap (λ (l : Leaf). l ++ None ∷ []) c.loop-slot.invariant
    ∙ sym (changed_last c.args.cols.now c.args.key.now None c.loop-slot.yielded c.in-Some.slot None (taken (has c.args.cols.now c.args.key.now c.in-Some.slot) None c.in-Some.slot (sym c.in_ok-has.ensures ∙ c.if-branch.true)))

pub loop-slot-preserved : goal.loop-slot-preserved
loop-slot-preserved c =
    c.in_ok-push-2.ensures.items ∙ ap (λ (l : Leaf). l ++ c.in-Some.slot ∷ []) c.loop-slot.invariant
    ∙ sym (changed_last c.args.cols.now c.args.key.now None c.loop-slot.yielded c.in-Some.slot c.in-Some.slot (left_as_is (has c.args.cols.now c.args.key.now c.in-Some.slot) None c.in-Some.slot (sym c.in_ok-has.ensures ∙ c.if-branch.false)))
