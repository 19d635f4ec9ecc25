-- The locks that are left are a book still.
use Rattle.std.proofs.Common.{sym, ap, ◌∙◌, subst}
use Rattle.lock_book.specs.Locks.{Locks, IsLockBook, lock_of}
use Rattle.lock_book.proofs.LockLemmas.{IsLockBook-without_lock, lock_of-without_lock, lock_of-without_lock_same}
use Rattle.lock_book.proofs.book.LockBook.free.Goals as goal

pub invariant_of-self : goal.invariant_of-self
invariant_of-self c = subst IsLockBook (sym c.cut_lock.ensures) (IsLockBook-without_lock c.self.inside.locks.items c.args.who c.args.table c.self.invariant)

pub returns-clause-book : goal.returns-clause-book
returns-clause-book c = subst IsLockBook (sym c.cut_lock.ensures) (IsLockBook-without_lock c.self.inside.locks.items c.args.who c.args.table c.self.invariant)

pub returns-clause-gone : goal.returns-clause-gone
returns-clause-gone c = ap (λ (v : Locks). lock_of v c.args.who c.args.table) c.cut_lock.ensures ∙ lock_of-without_lock_same c.self.inside.locks.items c.args.who c.args.table

pub returns-clause-rest : goal.returns-clause-rest
returns-clause-rest c = λ k at ne.
    ap (λ (v : Locks). lock_of v k at) c.cut_lock.ensures ∙ lock_of-without_lock c.self.inside.locks.items c.args.who k c.args.table at ne
    ∙ ap (λ (v : Locks). lock_of v k at) c.self.view_is
