use Rattle.std.proofs.Common.{◌≡◌, take, map}
use Rattle.table_def.specs.Parts.{written}
use Rattle.table_def.specs.Defined.{column_of}
use Rattle.table_def.proofs.columns.columns_beside.Given as goal

abbrev pub invariant-loop-part : goal.invariant-loop-part
invariant-loop-part l = l.cols ≡ map (column_of l.key) (written (take l.part-index l.parts))
