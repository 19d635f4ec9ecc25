use Rattle.std.proofs.Common.{◌-◌, length}
use Rattle.reply_text.specs.Left.{left}
use Rattle.reply_text.proofs.Reading.{TookRows}
use Rattle.reply_text.proofs.book.next_rows.Given as goal

abbrev pub invariant-loop-alloc : goal.invariant-loop-alloc
invariant-loop-alloc l = TookRows l.count (left l.fn.lines) l.rows (left l.lines) l.fn.lines.number l.lines.number

abbrev pub decreases-loop-alloc : goal.decreases-loop-alloc
decreases-loop-alloc l = l.count - length l.rows
