-- The rows so far are gone through.
use Rattle.stmt_eval.proofs.TakingLemmas.{IsThrough}
use Rattle.stmt_eval.proofs.rows.taken.Given as goal

abbrev pub invariant-loop-i : goal.invariant-loop-i
invariant-loop-i g l = IsThrough (g.W.RowWork.outcome l.work) l.rows l.i l.taken
