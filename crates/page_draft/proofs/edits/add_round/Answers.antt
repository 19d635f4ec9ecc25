use Rattle.std.proofs.Common.{List, [], ℕ, ◌≡◌, ◌∙◌, ap, sym, arith, ◌≤◌, ◌+◌, length}
use Rattle.page_fmt.specs.Seen.{Looked}
use Rattle.page_draft.specs.declared.page.Cell.{Cell}
use Rattle.page_draft.specs.Drafts.{Drafted, cell_at}
use Rattle.page_draft.specs.Reading.{read_slots}
use Rattle.page_draft.proofs.CodeLemmas.{few, few_slots, round_take, round_leave, round_end}
use Rattle.page_draft.proofs.edits.add_round.Goals as goal

-- what a cell in the code's list has is what one of the page's has
cell_is : (cells all : List Cell) (page : Drafted) (k i : ℕ) → cells ≡ all → all ≡ page.cells → k ≡ i → cell_at cells k ≡ cell_at page.cells i
cell_is cells all page k i a b n = (λ j. cell_at ((a ∙ b) j) (n j))

pub overflow_cast-i-end : goal.overflow_cast-i-end
overflow_cast-i-end c =
    let d : Looked = record { page = record { file = 0; page = 0 }; slots = [] } in
    let cells : length c.page.inside.cells.items ≤ 4048 = few c.page.inside.cells.items c.page.invariant.0 in
    omega (arith, few_slots (read_slots c.args.seen.now c.args.place d) (c.slots_at.ensures.fits d), c.slots_at.ensures.count d, cells, ap length c.as_slice-cells.ensures.value, c.from.ensures)

pub loop-i-preserved-then-not-is_due : goal.loop-i-preserved-then-not-is_due
loop-i-preserved-then-not-is_due c = λ d.
    let view : c.page.inside.cells.items ≡ c.args.page.now.cells = ap (λ (v : Drafted). v.cells) c.page.view_is in
    round_leave c.args.grows c.args.page.now (read_slots c.args.seen.now c.args.place d) (length (read_slots c.args.seen.now c.args.place d) + length c.args.page.now.cells) c.loop-i.i c.args.edits.now c.loop-i.edits
    c.slot_at.result.now c.bytes_at-bytes.result.now c.names_at-names.result (c.loop-i.invariant d)
    (omega (arith, c.loop-i-test.true, c.slots_at.ensures.count d, ap length c.as_slice-cells.ensures.value, ap length view, c.from.ensures)) (c.slot_at.ensures d)
    (c.names_at-names.ensures ∙ ap (λ (x : Cell). x.names) (cell_is c.as_slice-cells.result.now c.page.inside.cells.items c.args.page.now c.from-in-loop-i-2.result c.loop-i.i c.as_slice-cells.ensures.value view c.from-in-loop-i-2.ensures))
    (c.bytes_at-bytes.ensures ∙ ap (λ (x : Cell). x.bytes) (cell_is c.as_slice-cells.result.now c.page.inside.cells.items c.args.page.now c.from-in-loop-i.result c.loop-i.i c.as_slice-cells.ensures.value view c.from-in-loop-i.ensures))
    (sym c.is_due.ensures ∙ c.if-not-is_due.true)

pub loop-i-preserved : goal.loop-i-preserved
loop-i-preserved c = λ d.
    let view : c.page.inside.cells.items ≡ c.args.page.now.cells = ap (λ (v : Drafted). v.cells) c.page.view_is in
    round_take c.args.grows c.args.page.now (read_slots c.args.seen.now c.args.place d) (length (read_slots c.args.seen.now c.args.place d) + length c.args.page.now.cells) c.loop-i.i c.args.edits.now c.loop-i.edits c.push.new.self c.in_ok-edit.field-0
    c.slot_at.result.now c.bytes_at-bytes.result.now c.names_at-names.result (c.loop-i.invariant d)
    (omega (arith, c.loop-i-test.true, c.slots_at.ensures.count d, ap length c.as_slice-cells.ensures.value, ap length view, c.from.ensures)) (c.slot_at.ensures d)
    (c.names_at-names.ensures ∙ ap (λ (x : Cell). x.names) (cell_is c.as_slice-cells.result.now c.page.inside.cells.items c.args.page.now c.from-in-loop-i-2.result c.loop-i.i c.as_slice-cells.ensures.value view c.from-in-loop-i-2.ensures))
    (c.bytes_at-bytes.ensures ∙ ap (λ (x : Cell). x.bytes) (cell_is c.as_slice-cells.result.now c.page.inside.cells.items c.args.page.now c.from-in-loop-i.result c.loop-i.i c.as_slice-cells.ensures.value view c.from-in-loop-i.ensures))
    (sym c.is_due.ensures ∙ c.if-not-is_due.false) c.in_ok-edit.ensures c.in_ok-push.ensures.ok

pub returns-clause-edits : goal.returns-clause-edits
returns-clause-edits c = λ d.
    let view : c.page.inside.cells.items ≡ c.args.page.now.cells = ap (λ (v : Drafted). v.cells) c.page.view_is in
    round_end c.args.grows c.args.page.now (read_slots c.args.seen.now c.args.place d) (length (read_slots c.args.seen.now c.args.place d) + length c.args.page.now.cells) c.loop-i.i c.args.edits.now c.loop-i.edits (c.loop-i.invariant d)
    (omega (arith, c.loop-i-test.false, c.slots_at.ensures.count d, ap length c.as_slice-cells.ensures.value, ap length view, c.from.ensures))
