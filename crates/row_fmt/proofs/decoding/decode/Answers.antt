-- A row, a row with bytes behind it, and a wrong field.
use Rattle.std.proofs.Common.{◌≡◌, List, ℕ, sym, subst, ◌∙◌, arith}
use Rattle.std.specs.Prelude.{Err}
use Rattle.page_base.specs.declared.column.Column.{Column}
use Rattle.page_base.specs.declared.value.Value.{Value}
use Rattle.page_base.specs.Reading.{Read}
use Rattle.page_base.proofs.FormatLemmas.{IsBytes, ok}
use Rattle.byte_fields.specs.declared.stop.Stop.{Stop}
use Rattle.byte_fields.specs.Answers.{Fails}
use Rattle.row_fmt.specs.Reading.{row_at}
use Rattle.row_fmt.proofs.RowLemmas.{row_was_read, only_one, fault_in_row, fault_behind_row, no_row_there, ended, not_ended}
use Rattle.row_fmt.proofs.decoding.decode.Goals as goal

abbrev err : List ℕ → Read (List Value)
err rest = Err rest

-- what was read of these columns and bytes
read_of : (columns same : List Column) (bytes again : List ℕ) (read : Read (List Value)) → same ≡ columns → again ≡ bytes → row_at same again ≡ read → row_at columns bytes ≡ read
read_of columns same bytes again read c b e = (λ i. row_at (sym c i) (sym b i)) ∙ e

pub returns-then-not-is_empty-clause-refused : goal.returns-then-not-is_empty-clause-refused
returns-then-not-is_empty-clause-refused c =
    let h : IsBytes c.args.bytes.now = λ i. omega (arith, c.type_inv.bytes i) in
    let e = read_of c.args.cols.now c.as_slice.result.now c.args.bytes.now c.new-reader.result (ok c.in-Ok.row c.read_row.new.reader) c.as_slice.ensures c.new-reader.ensures c.in-Ok.ensures in
    rw c.place.ensures (fault_behind_row c.args.cols.now c.args.bytes.now h c.in-Ok.row c.read_row.new.reader e (not_ended c.is_empty.result c.is_empty.ensures c.if-not-is_empty.true))

pub returns-then-not-is_empty-clause-only : goal.returns-then-not-is_empty-clause-only
returns-then-not-is_empty-clause-only c =
    let h : IsBytes c.args.bytes.now = λ i. omega (arith, c.type_inv.bytes i) in
    let e = read_of c.args.cols.now c.as_slice.result.now c.args.bytes.now c.new-reader.result (ok c.in-Ok.row c.read_row.new.reader) c.as_slice.ensures c.new-reader.ensures c.in-Ok.ensures in
    no_row_there c.args.cols.now c.args.bytes.now h _ (fault_behind_row c.args.cols.now c.args.bytes.now h c.in-Ok.row c.read_row.new.reader e (not_ended c.is_empty.result c.is_empty.ensures c.if-not-is_empty.true))

pub returns-else-not-is_empty-clause-row : goal.returns-else-not-is_empty-clause-row
returns-else-not-is_empty-clause-row c =
    let h : IsBytes c.args.bytes.now = λ i. omega (arith, c.type_inv.bytes i) in
    let e = read_of c.args.cols.now c.as_slice.result.now c.args.bytes.now c.new-reader.result (ok c.in-Ok.row c.read_row.new.reader) c.as_slice.ensures c.new-reader.ensures c.in-Ok.ensures in
    row_was_read c.args.cols.now c.args.bytes.now h c.in-Ok.row c.read_row.new.reader e (ended c.is_empty.result c.is_empty.ensures c.if-not-is_empty.false)

pub returns-else-not-is_empty-clause-only : goal.returns-else-not-is_empty-clause-only
returns-else-not-is_empty-clause-only c =
    let h : IsBytes c.args.bytes.now = λ i. omega (arith, c.type_inv.bytes i) in
    let e = read_of c.args.cols.now c.as_slice.result.now c.args.bytes.now c.new-reader.result (ok c.in-Ok.row c.read_row.new.reader) c.as_slice.ensures c.new-reader.ensures c.in-Ok.ensures in
    λ row r. only_one c.args.cols.now c.args.bytes.now h c.in-Ok.row row c.read_row.new.reader e r

-- where reading stopped
stopped : (c : goal.After-place-in-Err-Form) → row_at c.args.cols.now c.args.bytes.now ≡ err c.read_row.new.reader
stopped c =
    let stops = subst (λ (e : Stop). Fails e c.read_row.new.reader (row_at c.as_slice.result.now c.new-reader.result)) c.in-Err-Form.field-0-is c.in-Err-Form.ensures in
    read_of c.args.cols.now c.as_slice.result.now c.args.bytes.now c.new-reader.result (err c.read_row.new.reader) c.as_slice.ensures c.new-reader.ensures stops

pub returns-in-Err-Form-clause-only : goal.returns-in-Err-Form-clause-only
returns-in-Err-Form-clause-only c =
    let h : IsBytes c.args.bytes.now = λ i. omega (arith, c.type_inv.bytes i) in
    no_row_there c.args.cols.now c.args.bytes.now h _ (fault_in_row c.args.cols.now c.args.bytes.now h c.read_row.new.reader (stopped c))

pub returns-in-Err-Form-clause-refused : goal.returns-in-Err-Form-clause-refused
returns-in-Err-Form-clause-refused c =
    let h : IsBytes c.args.bytes.now = λ i. omega (arith, c.type_inv.bytes i) in
    rw c.place-in-Err-Form.ensures (fault_in_row c.args.cols.now c.args.bytes.now h c.read_row.new.reader (stopped c))
