use Rattle.std.proofs.Common.{get_or, take, ap, sym, ◌∙◌, None}
use Rattle.std.proofs.lemmas.List.{get_or_default}
use Rattle.table_walk.specs.declared.visit.Visit.{Visit}
use Rattle.table_heap.specs.Emission.{last_or}
use Rattle.table_heap.specs.Shape.{roots_in}
use Rattle.table_heap.proofs.PlanningLemmas.{roots_skip, roots_take, last_or_end}
use Rattle.table_heap.proofs.planning.last_root.Goals as goal

pub loop-visit-preserved-then-is_leaf : goal.loop-visit-preserved-then-is_leaf
loop-visit-preserved-then-is_leaf c =
    let v : Visit = get_or c.args.done.now c.loop-visit.visit-index (record { page = record { file = 0; page = 0 }; from = record { file = 0; page = 0 }; slot = 0; level = None }) in
    c.loop-visit.invariant ∙ ap (last_or c.args.root) (roots_skip c.args.done.now c.loop-visit.visit-index v c.loop-visit-test.true (get_or_default c.args.done.now c.loop-visit.visit-index _ v c.loop-visit-test.true) (sym c.is_leaf.ensures ∙ c.if-is_leaf.true))

pub loop-visit-preserved : goal.loop-visit-preserved
loop-visit-preserved c =
    let v : Visit = get_or c.args.done.now c.loop-visit.visit-index (record { page = record { file = 0; page = 0 }; from = record { file = 0; page = 0 }; slot = 0; level = None }) in
    sym
    (ap (last_or c.args.root) (roots_take c.args.done.now c.loop-visit.visit-index v c.loop-visit-test.true (get_or_default c.args.done.now c.loop-visit.visit-index _ v c.loop-visit-test.true) (sym c.is_leaf.ensures ∙ c.if-is_leaf.false))
    ∙ last_or_end c.args.root v.page (roots_in (take c.loop-visit.visit-index c.args.done.now)))
