use Rattle.std.proofs.Common.{◌≡◌, ◌∙◌, List, ℕ, [], length, get_or, set, ap, sym, subst}
use Rattle.std.specs.FinMap as finite
use Rattle.page_fmt.specs.Edits.{set_slot}
use Rattle.row_fmt.specs.Rows.{row_bytes}
use Rattle.table_walk.proofs.Exits.{on_ok}
use Rattle.table_heap.specs.Leaves.{add}
use Rattle.table_heap.specs.Places.{Index, IsDraft, IsPlaceFor}
use Rattle.table_heap.proofs.DraftLemmas.{add_draft}
use Rattle.table_heap.proofs.draft.Draft.add.Goals as goal

pub returns : goal.returns
returns c = on_ok c.put.result (λ put cols leaves row d may key bytes none.
    let old = c.args.self.now.leaves.items in
    let mid = c.place_for.new.self.leaves.items in
    let p = c.in_ok-place.place in
    let size : c.len.result ≡ length (row_bytes row) = c.len.ensures ∙ ap length bytes in
    let place : IsPlaceFor old mid (length (row_bytes row)) p = subst (λ n. IsPlaceFor old mid n p) size c.in_ok-place.ensures.place in
    let made : c.write.new.self.leaves.items ≡ set mid p.leaf (set_slot (get_or mid p.leaf []) p.slot (row_bytes row)) = c.in_ok-write.ensures.leaves ∙ ap (λ (x : List ℕ). set mid p.leaf (set_slot (get_or mid p.leaf []) p.slot x)) bytes in
    let lacks = ap (finite.get c.args.self.now.places) (sym key) ∙ none in
    subst (λ (m : Index). IsDraft cols (add row leaves) c.write.new.self.leaves.items m)
    ((λ i. finite.insert (sym (c.in_ok-write.ensures.places ∙ c.in_ok-place.ensures.places) i) (sym key i) p) ∙ sym put)
    (add_draft cols leaves old mid c.write.new.self.leaves.items c.args.self.now.places row p d may lacks place made)) c.put.ensures.ok
