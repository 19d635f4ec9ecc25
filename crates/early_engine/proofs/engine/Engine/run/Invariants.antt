use Rattle.std.proofs.Common.{◌≡◌, take, drop}
use Rattle.early_engine.specs.Steps.{Goes}
use Rattle.early_engine.specs.Schedules.{Plays, due_order}
use Rattle.early_engine.proofs.engine.Engine.run.Given as goal

abbrev pub invariant-loop-pick : goal.invariant-loop-pick
invariant-loop-pick g l = record {
  goes : Goes l.fn.self l.self;
  plays : Plays (take l.pick-index l.picks) l.fn.self l.self;
  order : due_order l.self (drop l.pick-index l.picks) ≡ due_order l.fn.self l.picks;
}
