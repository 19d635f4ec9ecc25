use Rattle.std.proofs.Common.{◌≡◌, map}
use Rattle.std.specs.List.{range_with_len}
use Rattle.plain_model.specs.Tables.{key_cell}
use Rattle.table_walk.proofs.key.key_of.Given as goal

abbrev pub invariant-loop-i : goal.invariant-loop-i
invariant-loop-i l = l.key ≡ map (key_cell l.cols l.row) (range_with_len 1 l.i)
