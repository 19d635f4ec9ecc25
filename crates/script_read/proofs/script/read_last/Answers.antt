use Rattle.std.proofs.lemmas.Result.{IfOk-weaker, IfErr-weaker}
use Rattle.script_read.proofs.Takings.{no_value}
use Rattle.script_read.proofs.Whole.{last_read_none, last_read, last_refused}
use Rattle.script_read.proofs.script.read_last.Goals as goal

pub returns-in_default-clause-ok : goal.returns-in_default-clause-ok
returns-in_default-clause-ok c = last_read_none _ _ _ _ (no_value _ _ _ c.peek.ensures c.in_default.not-Some) c.new.ensures

pub returns-clause-ok : goal.returns-clause-ok
returns-clause-ok c = IfOk-weaker c.read_schedule.result _ _
    (λ picks is. last_read c.args.sessions _ _ _ c.in-Some._line.now picks c.requires.last c.in-Some.ensures (rw (c.advance.ensures.left, c.advance.ensures.line) at is)) c.read_schedule.ensures.ok

pub returns-clause-refused : goal.returns-clause-refused
returns-clause-refused c = IfErr-weaker c.read_schedule.result _ _
    (λ e is said. last_refused c.args.sessions said _ _ _ c.in-Some._line.now e c.requires.last c.in-Some.ensures (rw (c.advance.ensures.left, c.advance.ensures.line) at is)) c.read_schedule.ensures.refused
