-- What is made of the elements so far.
use Rattle.std.proofs.Common.{◌≡◌, map, take}
use Rattle.plain_model.specs.Selecting.{shown}
use Rattle.stmt_eval.proofs.selecting.shown_row.Given as goal

abbrev pub invariant-loop-value : goal.invariant-loop-value
invariant-loop-value l = l.values ≡ map shown (take l.value-index l.value-items)
