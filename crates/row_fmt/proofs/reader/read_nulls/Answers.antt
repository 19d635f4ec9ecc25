-- One more byte for NULLs, a wrong one, and the last one.
use Rattle.std.proofs.Common.{◌≡◌, ◌*◌, List, ℕ, length, take, ap, sym, subst, ◌∙◌, arith}
use Rattle.std.proofs.lemmas.List.{length-take}
use Rattle.std.proofs.lemmas.Result.{err_from_is_err_and}
use Rattle.page_base.specs.declared.column.Column.{Column}
use Rattle.page_base.proofs.FormatLemmas.{ok}
use Rattle.row_fmt.specs.Rows.{null_bytes}
use Rattle.byte_fields.specs.Answers.{Fails}
use Rattle.row_fmt.specs.Reading.{bits_of, group_at, nulls_at, null_bits}
use Rattle.row_fmt.proofs.NullLemmas.{tail_slice, no_nulls_yet, nulls_more, nulls_fail, nulls_end}
use Rattle.row_fmt.proofs.reader.read_nulls.Goals as goal

pub loop-i-init : goal.loop-i-init
loop-i-init c = (sym c.rest-all.ensures, omega arith, no_nulls_yet c.args.columns.now (null_bytes (length c.args.columns.now)) c.rest-all.result.now c.args.reader.now (sym c.rest-all.ensures))

pub returns-in_err-read_group-clause-read : goal.returns-in_err-read_group-clause-read
returns-in_err-read_group-clause-read c =
    let p = err_from_is_err_and c.from_residual.result c.from_residual.ensures.1 in
    let n : ℕ = null_bytes (length c.args.columns.now) in
    let fails = subst (λ (cs : List Column). Fails c.in_err-read_group.field-0.0 c.read_group.new.reader (group_at (take 8 cs) c.loop-i.reader)) (tail_slice (8 * c.loop-i.i) c.args.columns.now) c.in_err-read_group.ensures in
    rw (p.1, p.2)
    (nulls_fail c.args.columns.now n c.loop-i.i c.rest-all.result.now c.loop-i.reader (nulls_at n c.args.columns.now c.args.reader.now) c.loop-i.invariant.0 (c.loop-i.invariant.2 ∙ ap (nulls_at n c.args.columns.now) c.rest-all.ensures) c.in_err-read_group.field-0.0 c.read_group.new.reader (omega (arith, c.null_bytes-count.ensures)) fails)

pub loop-i-preserved : goal.loop-i-preserved
loop-i-preserved c =
    let n : ℕ = null_bytes (length c.args.columns.now) in
    let read = subst (λ (cs : List Column). group_at (take 8 cs) c.loop-i.reader ≡ ok (bits_of (length (take 8 cs)) c.in_ok-read_group.field-0) c.read_group.new.reader) (tail_slice (8 * c.loop-i.i) c.args.columns.now) c.in_ok-read_group.ensures in
    nulls_more c.args.columns.now n c.loop-i.i c.rest-all.result.now c.loop-i.reader (nulls_at n c.args.columns.now c.rest-all.result.now) c.loop-i.invariant.0 c.loop-i.invariant.2 _ c.read_group.new.reader (omega (arith, c.null_bytes-count.ensures)) read

pub slice_bounds-result-end : goal.slice_bounds-result-end
slice_bounds-result-end c = omega (arith, length-take c.null_bytes-count.result c.rest-all.result.now, c.loop-i.invariant.1)

pub returns-clause-read : goal.returns-clause-read
returns-clause-read c =
    let n : ℕ = null_bytes (length c.args.columns.now) in
    ap (nulls_at n c.args.columns.now) (sym c.rest-all.ensures)
    ∙ nulls_end c.args.columns.now n c.loop-i.i c.rest-all.result.now c.loop-i.reader (nulls_at n c.args.columns.now c.rest-all.result.now) c.loop-i.invariant.0 c.loop-i.invariant.2 (omega (arith, c.null_bytes-count.ensures))
    ∙ ap (λ (m : ℕ). ok (null_bits n c.args.columns.now (take m c.rest-all.result.now)) c.loop-i.reader) (sym c.null_bytes-count.ensures)

pub returns-clause-count : goal.returns-clause-count
returns-clause-count c = omega (arith, length-take c.null_bytes-count.result c.rest-all.result.now, c.loop-i.invariant.1, c.null_bytes-count.ensures)
