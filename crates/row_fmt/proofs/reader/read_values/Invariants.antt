-- The values so far, and those still to be read, are those of all columns.
use Rattle.std.proofs.Common.{◌≡◌, length, drop}
use Rattle.page_base.proofs.TimesLoop.{with_front}
use Rattle.row_fmt.specs.Rows.{null_bytes}
use Rattle.row_fmt.specs.Reading.{null_bits, values_at}
use Rattle.row_fmt.proofs.reader.read_values.Given as goal

abbrev pub invariant-loop-i : goal.invariant-loop-i
invariant-loop-i l =
    with_front l.values.items (values_at (drop l.i l.columns) (drop l.i (null_bits (null_bytes (length l.columns)) l.columns l.nulls)) l.reader) ≡ values_at l.columns (null_bits (null_bytes (length l.columns)) l.columns l.nulls) l.fn.reader
