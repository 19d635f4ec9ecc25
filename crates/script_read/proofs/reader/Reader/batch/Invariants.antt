use Rattle.std.proofs.Common.{length}
use Rattle.script_read.specs.Left.{left}
use Rattle.script_read.proofs.Takings.{Took}
use Rattle.script_read.proofs.reader.Reader.batch.Given as goal

abbrev pub invariant-loop-inner : goal.invariant-loop-inner
invariant-loop-inner l = Took l.bad l.fn.self.line (left l.fn.self) l.self.line (left l.self)

abbrev pub decreases-loop-inner : goal.decreases-loop-inner
decreases-loop-inner l = length (left l.self)
