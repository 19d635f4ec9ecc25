-- The lock that is found is the one whose mode is asked for.
use Rattle.std.proofs.Common.{ap, ◌∙◌}
use Rattle.lock_book.specs.Locks.{Locks, lock_of}
use Rattle.lock_book.proofs.Places.{lock_of-find}
use Rattle.lock_book.proofs.book.LockBook.holds.Goals as goal

pub returns : goal.returns
returns c = c.mode_of.ensures ∙ lock_of-find c.deref.result.now c.args.who c.args.table ∙ ap (λ (v : Locks). lock_of v c.args.who c.args.table) (c.deref.ensures.value ∙ c.self.view_is)
