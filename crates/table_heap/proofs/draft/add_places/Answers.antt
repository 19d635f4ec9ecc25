use Rattle.std.proofs.Common.{◌≡◌, ◌<◌, ◌≤◌, ◌+◌, ◌∙◌, List, ℕ, [], length, get_or, ap, sym, subst, arith}
use Rattle.std.proofs.lemmas.List.{length-map}
use Rattle.page_base.specs.declared.column.Column.{Column}
use Rattle.page_fmt.specs.Seen.{Looked}
use Rattle.plain_model.specs.Tables.{key_of}
use Rattle.table_walk.specs.declared.refusal.SeenRefusal.{SeenRefusal}
use Rattle.table_walk.specs.Tables.{IsNoRow}
use Rattle.table_walk.specs.Answers.{IsOn}
use Rattle.table_walk.proofs.Exits.{handed_on}
use Rattle.table_walk.proofs.VisitLemmas.{slot_short, is_nothing, is_something, slot_no_row}
use Rattle.table_heap.specs.Leaves.{cell}
use Rattle.table_heap.specs.Places.{Index, IsSoFar}
use Rattle.table_heap.proofs.DraftLemmas.{so_far_empty, so_far_row, so_far_leaf, slot_none, slot_some}
use Rattle.table_heap.proofs.draft.add_places.Goals as goal

pub loop-j-preserved-then-is_empty : goal.loop-j-preserved-then-is_empty
loop-j-preserved-then-is_empty c = λ d leaves are rows apart before.
    so_far_empty c.args.cols.now leaves c.args.leaf c.loop-j.j c.loop-j.places (c.loop-j.invariant d leaves are rows apart before)
    (slot_none c.args.cols.now leaves c.args.leaf c.loop-j.j (get_or c.args.seen.now c.args.i d).slots rows are (sym (c.slot-bytes.ensures d) ∙ is_nothing c.slot-bytes.result.now c.is_empty.result c.is_empty.ensures c.if-is_empty.true))

pub read_row-requires : goal.read_row-requires
read_row-requires c =
    let d : Looked = record { page = c.page-page.result; slots = [] } in
    let short : length (get_or (get_or c.args.seen.now c.args.i d).slots c.loop-j.j []) ≤ 8192 = slot_short (get_or c.args.seen.now c.args.i d).slots c.loop-j.j (c.slots-j-end.ensures.fits d) in
    let same = ap length (c.slot-bytes.ensures d) in
    omega arith

pub returns-in_err-row-clause-bad : goal.returns-in_err-row-clause-bad
returns-in_err-row-clause-bad c =
    let Bad : SeenRefusal → Type 0 = λ e. (d : Looked) → IsOn (get_or c.args.seen.now c.args.i d).page (IsNoRow c.args.cols.now (get_or c.args.seen.now c.args.i d).slots) e in
    handed_on Bad c.from_residual.result c.in_err-row.field-0.0 c.from_residual.ensures.1
    (λ d.
    let lt : c.loop-j.j < length (get_or c.args.seen.now c.args.i d).slots = omega (arith, c.slots-j-end.ensures.count d) in
    slot_no_row c.args.cols.now c.args.seen.now c.args.i d c.page-page.result c.loop-j.j c.slot-bytes.result.now c.in_err-row.field-0.0 (c.page-page.ensures d) lt (c.slot-bytes.ensures d)
    (is_something c.slot-bytes.result.now c.is_empty.result c.is_empty.ensures c.if-is_empty.false) c.in_err-row.ensures.bad)

pub loop-j-preserved : goal.loop-j-preserved
loop-j-preserved c = λ d leaves are rows apart before.
    let cols = c.args.cols.now in
    let row = c.in_ok-row.row in
    let here = slot_some cols leaves c.args.leaf c.loop-j.j (get_or c.args.seen.now c.args.i d).slots c.slot-bytes.result.now row rows are (c.slot-bytes.ensures d)
    (is_something c.slot-bytes.result.now c.is_empty.result c.is_empty.ensures c.if-is_empty.false) c.in_ok-row.ensures.row in
    let key : c.in_ok-key.key ≡ key_of cols row = c.in_ok-key.ensures ∙ ap (λ (cs : List Column). key_of cs row) c.as_slice.ensures in
    subst (λ (m : Index). IsSoFar cols leaves c.args.leaf (c.loop-j.j + 1) m) (sym c.in_ok-put.ensures.ok)
    (so_far_row cols leaves c.args.leaf c.loop-j.j c.loop-j.places row c.in_ok-key.key (record { leaf = c.args.leaf; slot = c.from-slot.result }) apart (c.loop-j.invariant d leaves are rows apart before) here key
    (ap (λ (n : ℕ). record { leaf = c.args.leaf; slot = n }) c.from-slot.ensures))

pub returns-clause-places : goal.returns-clause-places
returns-clause-places c = λ d leaves are rows apart before.
    let past : length (get_or leaves c.args.leaf []) ≤ c.loop-j.j = omega (arith, c.slots-j-end.ensures.count d, ap length are, length-map (get_or leaves c.args.leaf []) cell) in
    so_far_leaf c.args.cols.now leaves c.args.leaf c.loop-j.j c.loop-j.places (c.loop-j.invariant d leaves are rows apart before) past
