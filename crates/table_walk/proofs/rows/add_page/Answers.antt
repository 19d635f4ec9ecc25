use Rattle.std.proofs.Common.{◌<◌, ◌≤◌, length, get_or, arith, [], ap, sym, ◌∙◌}
use Rattle.page_fmt.specs.Seen.{Looked}
use Rattle.table_walk.specs.declared.refusal.SeenRefusal.{SeenRefusal}
use Rattle.table_walk.specs.Tables.{IsNoRow}
use Rattle.table_walk.specs.Answers.{IsOn}
use Rattle.table_walk.proofs.Exits.{handed_on}
use Rattle.table_walk.proofs.GatherLemmas.{so_far_none, so_far_more}
use Rattle.table_walk.proofs.VisitLemmas.{slot_short, is_nothing, is_something, slot_no_row}
use Rattle.table_walk.proofs.rows.add_page.Goals as goal

pub loop-j-preserved-then-is_empty : goal.loop-j-preserved-then-is_empty
loop-j-preserved-then-is_empty c = λ d.
    let lt : c.loop-j.j < length (get_or c.args.seen.now c.args.i d).slots = omega (arith, c.slots-j-end.ensures.count d) in
    so_far_none _ _ _ _ _ _ (c.loop-j.invariant d) lt (sym (c.slot-bytes.ensures d) ∙ is_nothing c.slot-bytes.result.now c.is_empty.result c.is_empty.ensures c.if-is_empty.true)

pub read_row-requires : goal.read_row-requires
read_row-requires c =
    let d : Looked = record { page = c.page-page.result; slots = [] } in
    let short : length (get_or (get_or c.args.seen.now c.args.i d).slots c.loop-j.j []) ≤ 8192 = slot_short (get_or c.args.seen.now c.args.i d).slots c.loop-j.j (c.slots-j-end.ensures.fits d) in
    let same = ap length (c.slot-bytes.ensures d) in
    omega arith

pub returns-in_err-row-clause-bad : goal.returns-in_err-row-clause-bad
returns-in_err-row-clause-bad c =
    let Bad : SeenRefusal → Type 0 = λ e. (d : Looked) → IsOn (get_or c.args.seen.now c.args.i d).page (IsNoRow c.args.cols.now (get_or c.args.seen.now c.args.i d).slots) e in
    handed_on Bad c.from_residual.result c.in_err-row.field-0.0 c.from_residual.ensures.1
    (λ d.
    let lt : c.loop-j.j < length (get_or c.args.seen.now c.args.i d).slots = omega (arith, c.slots-j-end.ensures.count d) in
    slot_no_row c.args.cols.now c.args.seen.now c.args.i d c.page-page.result c.loop-j.j c.slot-bytes.result.now c.in_err-row.field-0.0 (c.page-page.ensures d) lt (c.slot-bytes.ensures d)
    (is_something c.slot-bytes.result.now c.is_empty.result c.is_empty.ensures c.if-is_empty.false) c.in_err-row.ensures.bad)

pub loop-j-preserved : goal.loop-j-preserved
loop-j-preserved c = λ d.
    let lt : c.loop-j.j < length (get_or c.args.seen.now c.args.i d).slots = omega (arith, c.slots-j-end.ensures.count d) in
    so_far_more _ _ _ _ _ c.loop-j.rows _ c.slot-bytes.result.now c.in_ok-row.row (c.loop-j.invariant d) lt (c.slot-bytes.ensures d)
    (is_something c.slot-bytes.result.now c.is_empty.result c.is_empty.ensures c.if-is_empty.false) c.in_ok-row.ensures.row c.in_ok-put_asked.ensures
