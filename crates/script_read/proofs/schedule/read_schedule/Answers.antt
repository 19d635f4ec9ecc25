use Rattle.script_read.proofs.Takings.{no_value}
use Rattle.script_read.proofs.Schedules.{played_on, played_stop, played_all}
use Rattle.script_read.proofs.schedule.read_schedule.Goals as goal

pub returns-in-Some-2-clause-refused : goal.returns-in-Some-2-clause-refused
returns-in-Some-2-clause-refused c =
    rw c.refused.ensures (played_stop c.args.sessions _ _ _ _ _ c.in-Some.line.now _ c.add_line.new.picks _ _ c.in-Some-2.is c.loop-line.invariant c.in-Some.ensures c.in_ok-why.ensures)

pub loop-line-preserved : goal.loop-line-preserved
loop-line-preserved c =
    rw (c.advance.ensures.left, c.advance.ensures.line) (played_on c.args.sessions _ _ _ _ _ c.in-Some.line.now _ c.add_line.new.picks _ c.in_default-2.not-Some c.loop-line.invariant c.in-Some.ensures c.in_ok-why.ensures)

pub returns-clause-ok : goal.returns-clause-ok
returns-clause-ok c = played_all _ _ _ _ _ _ c.loop-line.invariant (no_value _ _ _ c.peek.ensures c.in_default.not-Some)
