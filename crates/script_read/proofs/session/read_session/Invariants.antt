use Rattle.std.proofs.Common.{length}
use Rattle.script_read.specs.Left.{left}
use Rattle.script_read.proofs.Sessions.{Reading}
use Rattle.script_read.proofs.session.read_session.Given as goal

abbrev pub invariant-loop-alloc : goal.invariant-loop-alloc
invariant-loop-alloc l = Reading l.said l.stmts l.fn.reader.line (left l.fn.reader) l.reader.line (left l.reader)

abbrev pub decreases-loop-alloc : goal.decreases-loop-alloc
decreases-loop-alloc l = length (left l.reader)
