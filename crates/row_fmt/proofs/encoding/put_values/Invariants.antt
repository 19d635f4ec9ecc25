-- The values so far are written, and are such as a program can hold.
use Rattle.std.proofs.Common.{◌≡◌, ◌++◌, take}
use Rattle.std.specs.List.{concat, flat_map, AllByRecursion}
use Rattle.row_fmt.specs.Rows.{InRange, value_field}
use Rattle.row_fmt.proofs.encoding.put_values.Given as goal

abbrev pub invariant-loop-i : goal.invariant-loop-i
invariant-loop-i l = (l.out.items ≡ l.fn.out.items ++ concat (flat_map value_field (take l.i l.row))) × AllByRecursion InRange (take l.i l.row)
