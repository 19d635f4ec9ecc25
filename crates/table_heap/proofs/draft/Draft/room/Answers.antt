use Rattle.std.proofs.Common.{◌∙◌, ap, sym}
use Rattle.std.specs.FinMap as finite
use Rattle.table_walk.proofs.RowsLemmas.{Key}
use Rattle.row_fmt.specs.Rows.{row_bytes}
use Rattle.table_heap.specs.Leaves.{has_room}
use Rattle.table_heap.proofs.DraftLemmas.{lacks_key, lacks_swap, place_within}
use Rattle.table_heap.proofs.draft.Draft.room.Goals as goal

pub returns-in_default-clause-none : goal.returns-in_default-clause-none
returns-in_default-clause-none c = λ cols leaves row d key size.
    let none = ap (finite.get c.args.self.now.places) (sym key) ∙ sym c.place.ensures ∙ c.in_default.is in
    ap (λ (k : Key). has_room cols k row leaves) key ∙ lacks_key cols leaves c.args.self.now.leaves.items c.args.self.now.places row d none

pub returns-then-not-has_room-clause-none : goal.returns-then-not-has_room-clause-none
returns-then-not-has_room-clause-none c = λ cols leaves row d key size.
    let here = ap (finite.get c.args.self.now.places) (sym key) ∙ sym c.place.ensures ∙ c.in-Some.is in
    let h = place_within cols leaves c.args.self.now.leaves.items c.args.self.now.places _ c.in-Some.place d here in
    ap (λ (k : Key). has_room cols k row leaves) key
    ∙ lacks_swap cols leaves c.args.self.now.leaves.items c.args.self.now.places row c.in-Some.place d here (c.has_room.ensures.no c.if-not-has_room.true h.0 h.1 (row_bytes row) size)
