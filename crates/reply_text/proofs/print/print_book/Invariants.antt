use Rattle.std.proofs.Common.{◌≡◌, take}
use Rattle.plain_model.specs.Printed.{printed}
use Rattle.reply_text.proofs.print.print_book.Given as goal

abbrev pub invariant-loop-event : goal.invariant-loop-event
invariant-loop-event l = l.text.items ≡ printed (take l.event-index l.event-items)
