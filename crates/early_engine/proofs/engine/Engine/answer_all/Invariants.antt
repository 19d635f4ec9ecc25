use Rattle.std.proofs.Common.{◌≡◌, []}
use Rattle.early_engine.specs.Safe.{seat_at}
use Rattle.early_engine.specs.Steps.{Goes, AreOthersSame}
use Rattle.early_engine.specs.Schedules.{Rounds, due_order}
use Rattle.early_engine.proofs.engine.Engine.answer_all.Given as goal

abbrev pub invariant-loop : goal.invariant-loop
invariant-loop g l = record {
  goes : Goes l.fn.self l.self;
  said : (seat_at l.self l.place).said ≡ l.counter;
  others : AreOthersSame l.fn.self l.self l.place;
  rounds : Rounds l.fn.self l.self;
  order : due_order l.self [] ≡ due_order l.fn.self [];
}
