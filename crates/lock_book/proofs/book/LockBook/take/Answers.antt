-- Who is in the way, and the book after a lock was given.
use Rattle.std.proofs.Common.{sym, ap, ◌∙◌, subst}
use Rattle.std.specs.Prelude.{OnOk}
use Rattle.lock_book.specs.Locks.{Locks, Holds, IsOnce, lock_of}
use Rattle.lock_book.specs.Taking.{stronger}
use Rattle.lock_book.proofs.Takes.{holds_on_ok, free_found, lowest_found, free_on_ok, refused_for_memory, book_left, others_left, rest_left}
use Rattle.lock_book.proofs.book.LockBook.take.Goals as goal

pub invariant_of-self : goal.invariant_of-self
invariant_of-self c =
    book_left c.self.inside.locks.items _ c.args.who c.args.table c.args.mode c.give.result
    (free_found c.deref.result.now c.self.inside.locks.items c.args.who c.args.table c.args.mode c.deref.ensures.value c.in-None.ensures)
    c.self.invariant c.give.ensures.given c.give.ensures.same

pub returns-in-Some-clause-refused : goal.returns-in-Some-clause-refused
returns-in-Some-clause-refused c =
    lowest_found c.deref.result.now c.args.self.now c.args.who c.args.table c.args.mode (c.deref.ensures.value ∙ c.self.view_is) c.in-Some.by (subst IsOnce (sym c.deref.ensures.value) c.self.invariant.once) c.in-Some.ensures

pub returns-in-None-clause-free : goal.returns-in-None-clause-free
returns-in-None-clause-free c =
    free_on_ok c.args.self.now c.args.who c.args.table c.args.mode
    (free_found c.deref.result.now c.args.self.now c.args.who c.args.table c.args.mode (c.deref.ensures.value ∙ c.self.view_is) c.in-None.ensures) c.give.result

pub returns-in-None-clause-refused : goal.returns-in-None-clause-refused
returns-in-None-clause-refused c =
    refused_for_memory c.args.self.now c.args.who c.args.table c.args.mode
    (free_found c.deref.result.now c.args.self.now c.args.who c.args.table c.args.mode (c.deref.ensures.value ∙ c.self.view_is) c.in-None.ensures) c.give.result c.give.ensures.memory

pub returns-in-None-clause-book : goal.returns-in-None-clause-book
returns-in-None-clause-book c =
    book_left c.self.inside.locks.items _ c.args.who c.args.table c.args.mode c.give.result
    (free_found c.deref.result.now c.self.inside.locks.items c.args.who c.args.table c.args.mode c.deref.ensures.value c.in-None.ensures)
    c.self.invariant c.give.ensures.given c.give.ensures.same

pub returns-in-None-clause-others : goal.returns-in-None-clause-others
returns-in-None-clause-others c = λ k at ne.
    others_left c.self.inside.locks.items _ c.args.who c.args.table c.args.mode c.give.result c.give.ensures.given c.give.ensures.same k at ne
    ∙ ap (λ (v : Locks). lock_of v k at) c.self.view_is

pub returns-in-None-clause-rest : goal.returns-in-None-clause-rest
returns-in-None-clause-rest c = λ k at ne.
    rest_left c.self.inside.locks.items _ c.args.who c.args.table c.args.mode c.give.result c.give.ensures.given c.give.ensures.same k at ne
    ∙ ap (λ (v : Locks). lock_of v k at) c.self.view_is

pub returns-in-None-clause-holds : goal.returns-in-None-clause-holds
returns-in-None-clause-holds c =
    subst (λ (v : Locks). OnOk c.give.result (Holds c.give.new.locks.items c.args.who c.args.table (stronger (lock_of v c.args.who c.args.table) c.args.mode))) c.self.view_is
    (holds_on_ok c.self.inside.locks.items c.give.new.locks.items c.args.who c.args.table c.args.mode c.give.result c.give.ensures.given)
