use Rattle.std.proofs.Common.{◌+◌, ◌∷◌, [], ap, sym, ◌∙◌, subst}
use Rattle.table_heap.specs.declared.growing.Growth.{Growth}
use Rattle.table_heap.specs.Growth.{IsGrowing}
use Rattle.table_heap.proofs.GrowingLemmas.{growing_claim}
use Rattle.table_heap.proofs.growing.Growth.add_leaf.Goals as goal

pub returns : goal.returns
returns c = λ spot count n g.
    c.name_leaf.ensures spot count n (c.in_ok-make_room.ensures.grows spot count n c.in_ok-leaf.leaf (ap (λ (x : Growth). x.claims) c.in_ok-leaf.ensures.next ∙ ap (λ k. k + 1) (sym c.in_ok-leaf.ensures.claim))
    (subst (λ k. IsGrowing spot count n (k ∷ []) c.claim.new.self) (sym c.in_ok-leaf.ensures.claim) (growing_claim spot count n c.args.self.now c.claim.new.self g c.in_ok-leaf.ensures.next)))
