-- The bytes so far are read, their bits stand in front, and those still to be read follow.
use Rattle.std.proofs.Common.{◌≡◌, ◌-◌, ◌*◌, ◌≤◌, length, drop}
use Rattle.page_base.proofs.TimesLoop.{with_front}
use Rattle.row_fmt.specs.Rows.{null_bytes}
use Rattle.row_fmt.specs.Reading.{nulls_at, null_bits}
use Rattle.row_fmt.proofs.reader.read_nulls.Given as goal

abbrev pub invariant-loop-i : goal.invariant-loop-i
invariant-loop-i l =
    (l.reader ≡ drop l.i l.all) × (l.i ≤ length l.all)
    × (with_front (null_bits l.i l.columns l.all) (nulls_at (null_bytes (length l.columns) - l.i) (drop (8 * l.i) l.columns) l.reader) ≡ nulls_at (null_bytes (length l.columns)) l.columns l.all)
