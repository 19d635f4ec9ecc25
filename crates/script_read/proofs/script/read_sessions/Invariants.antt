use Rattle.std.proofs.Common.{length}
use Rattle.script_read.specs.Left.{left}
use Rattle.script_read.proofs.Whole.{AtHeading}
use Rattle.script_read.proofs.script.read_sessions.Given as goal

abbrev pub invariant-loop-scripts : goal.invariant-loop-scripts
invariant-loop-scripts l = AtHeading l.scripts l.said l.fn.reader.line (left l.fn.reader) l.reader.line (left l.reader)

abbrev pub decreases-loop-scripts : goal.decreases-loop-scripts
decreases-loop-scripts l = length (left l.reader)
