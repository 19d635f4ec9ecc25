use Rattle.std.proofs.Common.{◌∙◌, subst, arith}
use Rattle.table_walk.specs.Leaves.{Leaf}
use Rattle.tree_draft.specs.Leaves.{IsFirstEmpty}
use Rattle.tree_draft.proofs.LeafLemmas.{added_at, added_behind}
use Rattle.tree_draft.proofs.leaf.added.Goals as goal

pub returns-then-i-len : goal.returns-then-i-len
returns-then-i-len c =
    let first : IsFirstEmpty c.args.leaf.items c.first_empty-i.result = subst (λ (l : Leaf). IsFirstEmpty l c.first_empty-i.result) c.as_slice.ensures.value c.first_empty-i.ensures in
    added_at c.args.row c.args.leaf.items c.first_empty-i.result first (omega (arith, c.if-i-len.true, c.len.ensures, c.args.leaf.ok.0))

pub returns : goal.returns
returns c =
    let first : IsFirstEmpty c.args.leaf.items c.first_empty-i.result = subst (λ (l : Leaf). IsFirstEmpty l c.first_empty-i.result) c.as_slice.ensures.value c.first_empty-i.ensures in
    c.in_ok-push.ensures.items ∙ added_behind c.args.row c.args.leaf.items c.first_empty-i.result first (omega (arith, c.if-i-len.false, c.len.ensures, c.args.leaf.ok.0))
