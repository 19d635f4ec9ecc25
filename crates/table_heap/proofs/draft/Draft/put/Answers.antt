use Rattle.std.proofs.Common.{◌≡◌, ◌≤◌, ◌∙◌, List, ℕ, [], length, get_or, set, ap, sym, subst, false}
use Rattle.std.specs.FinMap as finite
use Rattle.page_base.specs.declared.column.Column.{Column}
use Rattle.page_fmt.specs.Edits.{set_slot}
use Rattle.page_fmt.specs.Spelling.{used}
use Rattle.plain_model.specs.Tables.{key_of}
use Rattle.row_fmt.specs.Rows.{row_bytes}
use Rattle.table_walk.proofs.Exits.{on_ok}
use Rattle.table_walk.proofs.RowsLemmas.{Key}
use Rattle.table_heap.specs.Leaves.{Leaf, cut, put, has_room}
use Rattle.table_heap.specs.Places.{Index, IsDraft}
use Rattle.table_heap.proofs.DraftLemmas.{swap_draft, put_is, row_some, taken_out}
use Rattle.table_heap.proofs.draft.Draft.put.Goals as goal

pub write-requires-clause-some : goal.write-requires-clause-some
write-requires-clause-some c = λ none. row_some c.args.cols.now c.args.row.now c.requires (sym c.in_ok-bytes.ensures.spelled ∙ none)

pub add-requires-clause-some : goal.add-requires-clause-some
add-requires-clause-some c = λ none. row_some c.args.cols.now c.args.row.now c.requires (sym c.in_ok-bytes.ensures.spelled ∙ none)

pub returns-in-Some : goal.returns-in-Some
returns-in-Some c = on_ok c.write.result (λ done leaves d.
    let cols = c.args.cols.now in
    let row = c.args.row.now in
    let old = c.args.self.now.leaves.items in
    let p = c.in-Some.place in
    let key : c.in_ok-key.key ≡ key_of cols row = c.in_ok-key.ensures ∙ ap (λ (cs : List Column). key_of cs row) c.as_slice.ensures in
    let here = ap (finite.get c.args.self.now.places) (sym key) ∙ c.in-Some.ensures.place in
    let bytes : c.in_ok-bytes.bytes ≡ row_bytes row = c.in_ok-bytes.ensures.spelled in
    let size : length (row_bytes row) ≡ c.len.result = sym (c.len.ensures ∙ ap length bytes) in
    let room : used (set_slot (get_or old p.leaf []) p.slot (row_bytes row)) ≤ 8192 = c.in-Some.ensures.room.room (row_bytes row) size in
    let made : c.write.new.self.leaves.items ≡ set old p.leaf (set_slot (get_or old p.leaf []) p.slot (row_bytes row)) = done ∙ ap (λ (x : List ℕ). set old p.leaf (set_slot (get_or old p.leaf []) p.slot x)) bytes in
    subst (λ (m : Index). IsDraft cols (put cols row leaves) c.write.new.self.leaves.items m) (sym c.write.ensures.places)
    (swap_draft cols leaves old c.write.new.self.leaves.items c.args.self.now.places row p d c.requires here room made)) c.write.ensures.leaves

pub returns-in_ok-cut-in-None : goal.returns-in_ok-cut-in-None
returns-in_ok-cut-in-None c = on_ok c.add.result (λ done leaves d.
    let cols = c.args.cols.now in
    let row = c.args.row.now in
    let key : c.in_ok-key.key ≡ key_of cols row = c.in_ok-key.ensures ∙ ap (λ (cs : List Column). key_of cs row) c.as_slice.ensures in
    let bytes : c.in_ok-bytes.bytes ≡ row_bytes row = c.in_ok-bytes.ensures.spelled in
    let size : length (row_bytes row) ≡ c.len.result = sym (c.len.ensures ∙ ap length bytes) in
    let lacks : has_room cols (key_of cols row) row leaves ≡ false = ap (λ (k : Key). has_room cols k row leaves) (sym key) ∙ c.in-None.ensures.none cols leaves row d key size in
    let cut_one : IsDraft cols (cut cols (key_of cols row) leaves) c.cut.new.self.leaves.items c.cut.new.self.places =
    subst (λ (k : Key). IsDraft cols (cut cols k leaves) c.cut.new.self.leaves.items c.cut.new.self.places) key (c.in_ok-cut-in-None.ensures.draft cols leaves d) in
    let none = ap (λ (m : Index). finite.get m c.in_ok-key.key) c.in_ok-cut-in-None.ensures.places ∙ taken_out c.args.self.now.places c.in_ok-key.key in
    subst (λ (ls : List Leaf). IsDraft cols ls c.add.new.self.leaves.items c.add.new.self.places) (sym (put_is cols leaves row lacks))
    (done cols (cut cols (key_of cols row) leaves) row cut_one c.requires key bytes none)) c.add.ensures
