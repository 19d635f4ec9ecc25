-- The bytes so far are written.
use Rattle.std.proofs.Common.{◌≡◌, ◌++◌, map}
use Rattle.std.specs.List.{concat}
use Rattle.row_fmt.specs.Rows.{is_null, bit_fields}
use Rattle.row_fmt.proofs.encoding.put_nulls.Given as goal

abbrev pub invariant-loop-i : goal.invariant-loop-i
invariant-loop-i l = l.out.items ≡ l.fn.out.items ++ concat (bit_fields l.i (map is_null l.row))
