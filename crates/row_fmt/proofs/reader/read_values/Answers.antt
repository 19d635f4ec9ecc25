-- One more value, a wrong one, and the last one.
use Rattle.std.proofs.Common.{◌≡◌, ◌<◌, ◌≤◌, Bool, false, List, ℕ, ◌+◌, length, drop, get_or, ap, sym, subst, ◌∙◌, arith}
use Rattle.std.proofs.lemmas.Result.{err_from_is_err_and}
use Rattle.page_base.specs.declared.value.Value.{Value}
use Rattle.page_base.proofs.FormatLemmas.{ok}
use Rattle.page_base.proofs.TimesLoop.{with_front}
use Rattle.row_fmt.specs.Rows.{null_bytes}
use Rattle.byte_fields.specs.Answers.{Fails}
use Rattle.row_fmt.specs.Reading.{null_bits, cell_at, values_at}
use Rattle.row_fmt.proofs.RowLemmas.{enough_bytes}
use Rattle.row_fmt.proofs.NullLemmas.{from_nothing, length-null_bits, bit-null_bits, values_more, values_fail, values_end}
use Rattle.row_fmt.proofs.reader.read_values.Goals as goal

pub loop-i-init : goal.loop-i-init
loop-i-init c = rw c.in_ok-values.ensures.items (from_nothing (values_at c.args.columns.now (null_bits (null_bytes (length c.args.columns.now)) c.args.columns.now c.args.nulls.now) c.args.reader.now))

pub returns-in_err-value : goal.returns-in_err-value
returns-in_err-value c =
    let p = err_from_is_err_and c.from_residual-in_err-value.result c.from_residual-in_err-value.ensures.1 in
    let n : ℕ = null_bytes (length c.args.columns.now) in
    let le = enough_bytes (length c.args.columns.now) in
    let there : n ≤ length c.args.nulls.now = omega (arith, c.requires) in
    let bits : List Bool = null_bits n c.args.columns.now c.args.nulls.now in
    let lt_bits : c.loop-i.i < length bits = omega (arith, length-null_bits n c.args.columns.now c.args.nulls.now le there) in
    let bit : c.is_null.result ≡ get_or bits c.loop-i.i false = c.is_null.ensures ∙ sym (bit-null_bits n c.args.columns.now c.args.nulls.now c.loop-i.i le there c.loop-i-test.true) in
    let fails = subst (λ (b : Bool). Fails c.in_err-value.field-0.0 c.read_cell.new.reader (cell_at b c.index-columns-i.result.kind c.loop-i.reader)) bit c.in_err-value.ensures in
    rw (p.1, p.2)
    (values_fail c.args.columns.now bits c.loop-i.i c.loop-i.values.items c.loop-i.reader (values_at c.args.columns.now bits c.args.reader.now) c.loop-i.invariant c.in_err-value.field-0.0 c.index-columns-i.result c.read_cell.new.reader c.loop-i-test.true lt_bits c.index-columns-i.is fails)

pub loop-i-preserved : goal.loop-i-preserved
loop-i-preserved c =
    let n : ℕ = null_bytes (length c.args.columns.now) in
    let le = enough_bytes (length c.args.columns.now) in
    let there : n ≤ length c.args.nulls.now = omega (arith, c.requires) in
    let bits : List Bool = null_bits n c.args.columns.now c.args.nulls.now in
    let lt_bits : c.loop-i.i < length bits = omega (arith, length-null_bits n c.args.columns.now c.args.nulls.now le there) in
    let bit : c.is_null.result ≡ get_or bits c.loop-i.i false = c.is_null.ensures ∙ sym (bit-null_bits n c.args.columns.now c.args.nulls.now c.loop-i.i le there c.loop-i-test.true) in
    let read = subst (λ (b : Bool). cell_at b c.index-columns-i.result.kind c.loop-i.reader ≡ ok c.in_ok-value.value c.read_cell.new.reader) bit c.in_ok-value.ensures in
    ap (λ (vs : List Value). with_front vs (values_at (drop (c.loop-i.i + 1) c.args.columns.now) (drop (c.loop-i.i + 1) bits) c.read_cell.new.reader)) c.in_ok-push.ensures.items
    ∙ values_more c.args.columns.now bits c.loop-i.i c.loop-i.values.items c.loop-i.reader (values_at c.args.columns.now bits c.args.reader.now) c.loop-i.invariant c.index-columns-i.result c.in_ok-value.value c.read_cell.new.reader c.loop-i-test.true lt_bits c.index-columns-i.is read

pub returns : goal.returns
returns c =
    let bits : List Bool = null_bits (null_bytes (length c.args.columns.now)) c.args.columns.now c.args.nulls.now in
    rw c.from.ensures
    (values_end c.args.columns.now bits c.loop-i.i c.loop-i.values.items c.loop-i.reader (values_at c.args.columns.now bits c.args.reader.now) c.loop-i.invariant c.loop-i-test.false)
