-- The locks that are left are a book still.
use Rattle.std.proofs.Common.{sym, ap, ◌∙◌, subst}
use Rattle.lock_book.specs.Locks.{Locks, IsLockBook, lock_of}
use Rattle.lock_book.proofs.LockLemmas.{IsLockBook-without_locks, lock_of-without_locks, lock_of-without_locks_same}
use Rattle.lock_book.proofs.book.LockBook.free_all.Goals as goal

pub invariant_of-self : goal.invariant_of-self
invariant_of-self c = subst IsLockBook (sym c.cut_session.ensures) (IsLockBook-without_locks c.self.inside.locks.items c.args.who c.self.invariant)

pub returns-clause-book : goal.returns-clause-book
returns-clause-book c = subst IsLockBook (sym c.cut_session.ensures) (IsLockBook-without_locks c.self.inside.locks.items c.args.who c.self.invariant)

pub returns-clause-gone : goal.returns-clause-gone
returns-clause-gone c = λ at. ap (λ (v : Locks). lock_of v c.args.who at) c.cut_session.ensures ∙ lock_of-without_locks_same c.self.inside.locks.items c.args.who at

pub returns-clause-others : goal.returns-clause-others
returns-clause-others c = λ k at ne.
    ap (λ (v : Locks). lock_of v k at) c.cut_session.ensures ∙ lock_of-without_locks c.self.inside.locks.items c.args.who k at ne
    ∙ ap (λ (v : Locks). lock_of v k at) c.self.view_is
