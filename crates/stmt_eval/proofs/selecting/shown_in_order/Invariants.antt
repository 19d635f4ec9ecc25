-- What is shown of the rows so far.
use Rattle.std.proofs.Common.{◌≡◌, map, List}
use Rattle.page_base.specs.declared.value.Value.{Value}
use Rattle.stmt_eval.proofs.selecting.shown_in_order.Given as goal

abbrev pub invariant-loop-shown : goal.invariant-loop-shown
invariant-loop-shown l = l.rows ≡ map (λ (t : List Value × List Value). t.1) l.yielded
