use Rattle.std.proofs.Common.{◌≡◌, ◌+◌, ◌++◌, ◌∷◌, [], ◌∙◌, List, take, ap, sym, subst}
use Rattle.std.proofs.lemmas.List.{take_more, take_all}
use Rattle.table_walk.proofs.RowsLemmas.{Key}
use Rattle.table_heap.specs.Leaves.{Leaf, put_rows}
use Rattle.table_heap.specs.Places.{IsDraft}
use Rattle.table_heap.proofs.DraftLemmas.{put_more}
use Rattle.table_heap.proofs.draft.Draft.put_all.Goals as goal

pub loop-row-preserved : goal.loop-row-preserved
loop-row-preserved c = λ leaves d.
    let rows = c.args.rows.now in
    let r : Key = c.row-item.result in
    let cols = c.args.cols.now in
    let more : take (c.loop-row.row-index + 1) rows ≡ take c.loop-row.row-index rows ++ r ∷ [] = take_more rows c.loop-row.row-index r c.loop-row-test.true ∙ ap (λ (x : Key). take c.loop-row.row-index rows ++ x ∷ []) (sym c.row-item.is) in
    subst (λ (ls : List Leaf). IsDraft cols ls c.put.new.self.leaves.items c.put.new.self.places) (sym (ap (λ (rs : List Key). put_rows cols rs leaves) more ∙ put_more cols (take c.loop-row.row-index rows) r leaves))
    (c.in_ok-put.ensures (put_rows cols (take c.loop-row.row-index rows) leaves) (c.loop-row.invariant leaves d))

pub returns : goal.returns
returns c = λ leaves d.
    subst (λ (rs : List Key). IsDraft c.args.cols.now (put_rows c.args.cols.now rs leaves) c.loop-row.self.leaves.items c.loop-row.self.places) (take_all c.loop-row.row-index c.args.rows.now c.loop-row-test.false) (c.loop-row.invariant leaves d)
