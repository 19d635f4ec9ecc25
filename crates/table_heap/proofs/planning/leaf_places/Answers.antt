use Rattle.std.proofs.Common.{◌++◌, ◌∷◌, [], get_or, map, take, ap, sym, ◌∙◌, None}
use Rattle.std.proofs.lemmas.List.{get_or_default}
use Rattle.page_fmt.specs.Seen.{place_of}
use Rattle.table_walk.specs.declared.visit.Visit.{Visit}
use Rattle.table_heap.specs.Shape.{leaves_in}
use Rattle.table_heap.proofs.PlanningLemmas.{leaves_skip, leaves_take, map_end}
use Rattle.table_heap.proofs.planning.leaf_places.Goals as goal

pub loop-visit-preserved-then-not-is_leaf : goal.loop-visit-preserved-then-not-is_leaf
loop-visit-preserved-then-not-is_leaf c =
    let v : Visit = get_or c.args.done.now c.loop-visit.visit-index (record { page = record { file = 0; page = 0 }; from = record { file = 0; page = 0 }; slot = 0; level = None }) in
    c.loop-visit.invariant
    ∙ ap (map (place_of c.args.seen.now)) (leaves_skip c.args.done.now c.loop-visit.visit-index v c.loop-visit-test.true (get_or_default c.args.done.now c.loop-visit.visit-index _ v c.loop-visit-test.true) (sym c.is_leaf.ensures ∙ c.if-not-is_leaf.true))

pub loop-visit-preserved : goal.loop-visit-preserved
loop-visit-preserved c =
    let v : Visit = get_or c.args.done.now c.loop-visit.visit-index (record { page = record { file = 0; page = 0 }; from = record { file = 0; page = 0 }; slot = 0; level = None }) in
    c.in_ok-push.ensures.items ∙ (λ k. c.loop-visit.invariant k ++ c.in-Some.ensures.some k ∷ []) ∙ sym (map_end (place_of c.args.seen.now) (leaves_in (take c.loop-visit.visit-index c.args.done.now)) v.page)
    ∙ ap (map (place_of c.args.seen.now))
    (sym (leaves_take c.args.done.now c.loop-visit.visit-index v c.loop-visit-test.true (get_or_default c.args.done.now c.loop-visit.visit-index _ v c.loop-visit-test.true) (sym c.is_leaf.ensures ∙ c.if-not-is_leaf.false)))
