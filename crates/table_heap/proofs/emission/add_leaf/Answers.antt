use Rattle.table_walk.proofs.Exits.{on_ok}
use Rattle.table_heap.proofs.EmissionLemmas.{adds_old}
use Rattle.table_heap.proofs.emission.add_leaf.Goals as goal

pub returns-then-leaf-places : goal.returns-then-leaf-places
returns-then-leaf-places c =
    on_ok c.add_old_leaf.result (λ a d s. adds_old c.args.seen.now d c.args.places.now c.args.claims.now c.args.leaf s c.args.new.now c.args.edits.now c.add_old_leaf.new.edits c.if-leaf-places.true (a d)) c.add_old_leaf.ensures
