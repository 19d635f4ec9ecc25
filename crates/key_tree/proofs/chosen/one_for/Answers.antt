use Rattle.std.proofs.Common.{◌∙◌, ap, sym, None}
use Rattle.tree_laws.specs.declared.child.Child.{Child}
use Rattle.tree_laws.specs.Kids.{may_hold}
use Rattle.key_tree.proofs.ChosenLemmas.{chosen_more, chosen_last, chosen_here, one_at}
use Rattle.key_tree.proofs.chosen.one_for.Goals as goal
use Rattle.key_tree.proofs.chosen.one_for.Goals.{then-loop-at-test+else-may_hold, else-loop-at-test}

pub loop-at-preserved : goal.loop-at-preserved
loop-at-preserved c =
    chosen_more c.args.key.now c.args.children.now c.loop-at.at c.index-children-at.result c.loop-at.invariant c.loop-at-test.true (ap (may_hold c.args.key.now) (sym c.index-children-at.is) ∙ sym c.may_hold.ensures ∙ c.if-may_hold.true)

pub returns : goal.returns
returns c = elim c.loop-at-test.branch [
  | then-loop-at-test+else-may_hold w ↦
      one_at c.args.children.now c.loop-at.at w.index-children-at.result c.loop-at.invariant.0
      ∙ chosen_here c.args.key.now c.args.children.now c.loop-at.at w.index-children-at.result c.loop-at.invariant w.loop-at-test.true (ap (may_hold c.args.key.now) (sym w.index-children-at.is) ∙ sym w.may_hold.ensures ∙ w.if-may_hold.false)
  | else-loop-at-test w ↦
      let d : Child = record { least = None; page = record { file = 0; page = 0 }; slot = 0 } in
      one_at c.args.children.now c.loop-at.at d c.loop-at.invariant.0 ∙ chosen_last c.args.key.now c.args.children.now c.loop-at.at d c.loop-at.invariant w.loop-at-test.false
]
