use Rattle.std.proofs.Common.{ℕ, ◌≡◌, ◌<◌, true, []}
use Rattle.early_engine.specs.Safe.{seat_at}
use Rattle.early_engine.specs.Steps.{Goes}
use Rattle.early_engine.specs.Schedules.{Rounds, due_order}
use Rattle.early_engine.proofs.engine.Engine.finish.Given as goal

abbrev pub invariant-loop-place : goal.invariant-loop-place
invariant-loop-place g l = record {
  goes : Goes l.fn.self l.self;
  gone : (j : ℕ) → j < l.place → (seat_at l.self j).gone ≡ true;
  rounds : Rounds l.fn.self l.self;
  order : due_order l.self [] ≡ due_order l.fn.self [];
}
