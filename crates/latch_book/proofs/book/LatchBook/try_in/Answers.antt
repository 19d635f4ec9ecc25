-- The book with one more latch that nobody was in the way of is a book still.
use Rattle.std.proofs.Common.{subst}
use Rattle.latch_book.specs.Latches.{Latches, IsFree}
use Rattle.latch_book.proofs.InTheWay.{book_taken}
use Rattle.latch_book.proofs.book.LatchBook.try_in.Goals as goal

pub invariant_of-self : goal.invariant_of-self
invariant_of-self c = book_taken c.self.inside.latches c.args.who c.args.page c.args.mode c.requires.session c.self.invariant c.in-None.ensures

pub returns-in-None-clause-free : goal.returns-in-None-clause-free
returns-in-None-clause-free c = subst (λ (v : Latches). IsFree v c.args.who c.args.page c.args.mode) c.self.view_is c.in-None.ensures

pub returns-in-None-clause-book : goal.returns-in-None-clause-book
returns-in-None-clause-book c = book_taken c.self.inside.latches c.args.who c.args.page c.args.mode c.requires.session c.self.invariant c.in-None.ensures
