use Rattle.std.proofs.Common.{◌≡◌, ◌++◌, map}
use Rattle.table_walk.proofs.row_map.RowMap.into_list.Given as goal

abbrev pub invariant-loop-row : goal.invariant-loop-row
invariant-loop-row l = map (λ e. e.1) l.initial.row-iterator ≡ l.list ++ map (λ e. e.1) l.row-iterator
