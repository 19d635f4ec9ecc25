use Rattle.std.proofs.Common.{ℕ, ◌<◌, ◌≤◌}
use Rattle.early_pages.specs.Views.{IsDue}
use Rattle.early_engine.specs.Pushing.{Pushes, Turns, sound}
use Rattle.early_engine.proofs.pushing.push_all.Given as goal

abbrev pub invariant-loop-s : goal.invariant-loop-s
invariant-loop-s g l = record {
  pushes : Pushes l.fn.pages l.pages;
  turns : Turns l.fn.ledger l.ledger l.fn.pages l.pages;
  room : sound l.pages ≤ l.ledger.room;
  done : (k : ℕ) → k < l.s → ¬ IsDue l.pages l.p (record { 0 = k });
}
