use Rattle.std.proofs.Common.{length}
use Rattle.reply_text.specs.Left.{left}
use Rattle.reply_text.specs.Lines.{lines_of}
use Rattle.reply_text.proofs.Reading.{TookEvents}
use Rattle.reply_text.proofs.book.read_book.Given as goal

abbrev pub invariant-loop-book : goal.invariant-loop-book
invariant-loop-book l = TookEvents (lines_of l.bytes) l.book (left l.lines) l.lines.number

abbrev pub decreases-loop-book : goal.decreases-loop-book
decreases-loop-book l = length (left l.lines)
