-- What is made of the elements so far.
use Rattle.std.proofs.Common.{◌≡◌, map, take}
use Rattle.stmt_eval.proofs.selecting.copy_row.Given as goal

abbrev pub invariant-loop-value : goal.invariant-loop-value
invariant-loop-value l = l.values ≡ take l.value-index l.value-items
