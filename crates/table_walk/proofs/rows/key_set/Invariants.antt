use Rattle.std.proofs.Common.{◌≡◌, List, take}
use Rattle.std.specs.List.{list_any}
use Rattle.std.specs.FinMap as finite
use Rattle.page_base.specs.declared.value.Value.{Value}
use Rattle.table_walk.proofs.RowsLemmas.{same_key}
use Rattle.table_walk.proofs.rows.key_set.Given as goal

abbrev pub invariant-loop-key : goal.invariant-loop-key
invariant-loop-key l = (q : List Value) → finite.contains_key l.set q ≡ list_any (same_key q) (take l.key-index l.keys)
