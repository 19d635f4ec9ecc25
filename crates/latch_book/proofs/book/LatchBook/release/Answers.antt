-- The book without a latch is a book still.
use Rattle.latch_book.proofs.InTheWay.{book_released}
use Rattle.latch_book.proofs.book.LatchBook.release.Goals as goal

pub invariant_of-self : goal.invariant_of-self
invariant_of-self c = book_released c.self.inside.latches c.args.who c.requires c.self.invariant

pub returns-clause-book : goal.returns-clause-book
returns-clause-book c = book_released c.self.inside.latches c.args.who c.requires c.self.invariant
