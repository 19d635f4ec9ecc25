use Rattle.std.proofs.Common.{◌≡◌, replicate, false}
use Rattle.plain_model.specs.State.{master}
use Rattle.early_engine.proofs.engine.first_seats.Given as goal

abbrev pub invariant-loop : goal.invariant-loop
invariant-loop l = l.seats.items ≡ replicate l.counter (record { current = master; said = 0; gone = false })
