use Rattle.std.proofs.Common.{inr}
use Rattle.early_engine.specs.Schedules.{IsLowest, none, more}
use Rattle.early_engine.proofs.OrderLemmas.{lowest_one}
use Rattle.early_engine.proofs.engine.Engine.leave_last.Goals as goal

pub returns-then-not-index-clause-rounds : goal.returns-then-not-index-clause-rounds
returns-then-not-index-clause-rounds g c =
    let low : IsLowest c.args.self.now c.args.place = record { here = c.leave.ensures.here; before = c.requires.before } in
    more c.args.self.now c.args.self.now c.leave.new.self c.args.place (none c.args.self.now) low (inr c.leave.ensures)

pub returns-then-not-index-clause-order : goal.returns-then-not-index-clause-order
returns-then-not-index-clause-order g c =
    let low : IsLowest c.args.self.now c.args.place = record { here = c.leave.ensures.here; before = c.requires.before } in
    lowest_one c.args.self.now c.leave.new.self c.args.place low (inr c.leave.ensures)

pub returns-else-not-index-clause-rounds : goal.returns-else-not-index-clause-rounds
returns-else-not-index-clause-rounds g c = none c.args.self.now
