-- No session up to this place is in the way.
use Rattle.std.proofs.Common.{◌≤◌, ◌∷◌, None}
use Rattle.page_base.specs.declared.numbers.SessNo.{SessNo}
use Rattle.latch_book.specs.Latches.{IsInTheWay}
use Rattle.latch_book.proofs.book.lowest_in_way.Given as goal

abbrev pub invariant-loop-i : goal.invariant-loop-i
invariant-loop-i l = (k : SessNo) → k.0 ≤ l.i → ¬ IsInTheWay (None ∷ l.latches) l.fn.who l.page l.mode k
