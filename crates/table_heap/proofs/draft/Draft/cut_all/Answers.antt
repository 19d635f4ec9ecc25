use Rattle.std.proofs.Common.{◌≡◌, ◌+◌, ◌++◌, ◌∷◌, [], ◌∙◌, List, take, ap, sym, subst}
use Rattle.std.proofs.lemmas.List.{take_more, take_all}
use Rattle.table_walk.proofs.RowsLemmas.{Key}
use Rattle.table_heap.specs.Leaves.{Leaf, cut_keys}
use Rattle.table_heap.specs.Places.{IsDraft}
use Rattle.table_heap.proofs.DraftLemmas.{cut_more}
use Rattle.table_heap.proofs.draft.Draft.cut_all.Goals as goal

pub loop-key-preserved : goal.loop-key-preserved
loop-key-preserved c = λ cols leaves d.
    let keys = c.args.keys.now in
    let k : Key = c.key-item.result in
    let more : take (c.loop-key.key-index + 1) keys ≡ take c.loop-key.key-index keys ++ k ∷ [] = take_more keys c.loop-key.key-index k c.loop-key-test.true ∙ ap (λ (x : Key). take c.loop-key.key-index keys ++ x ∷ []) (sym c.key-item.is) in
    subst (λ (ls : List Leaf). IsDraft cols ls c.cut.new.self.leaves.items c.cut.new.self.places) (sym (ap (λ (ks : List Key). cut_keys cols ks leaves) more ∙ cut_more cols (take c.loop-key.key-index keys) k leaves))
    (c.in_ok-cut.ensures.draft cols (cut_keys cols (take c.loop-key.key-index keys) leaves) (c.loop-key.invariant cols leaves d))

pub returns : goal.returns
returns c = λ cols leaves d.
    subst (λ (ks : List Key). IsDraft cols (cut_keys cols ks leaves) c.loop-key.self.leaves.items c.loop-key.self.places) (take_all c.loop-key.key-index c.args.keys.now c.loop-key-test.false) (c.loop-key.invariant cols leaves d)
