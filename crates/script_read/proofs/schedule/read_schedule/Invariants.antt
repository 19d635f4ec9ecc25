use Rattle.std.proofs.Common.{length}
use Rattle.script_read.specs.Left.{left}
use Rattle.script_read.proofs.Schedules.{Played}
use Rattle.script_read.proofs.schedule.read_schedule.Given as goal

abbrev pub invariant-loop-line : goal.invariant-loop-line
invariant-loop-line l = Played l.sessions l.fn.reader.line (left l.fn.reader) l.picks l.reader.line (left l.reader)

abbrev pub decreases-loop-line : goal.decreases-loop-line
decreases-loop-line l = length (left l.reader)
