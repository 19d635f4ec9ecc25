-- The list after a new lock, a raised one, and one that is strong enough already.
use Rattle.std.proofs.Common.{sym, ◌∙◌}
use Rattle.lock_book.proofs.Places.{gained_new, given_new, gained_at, raised_at, kept_at}
use Rattle.lock_book.proofs.book.give.Goals as goal

pub returns-in_ok-push-in-None-clause-gained : goal.returns-in_ok-push-in-None-clause-gained
returns-in_ok-push-in-None-clause-gained c = gained_new c.deref.result.now c.args.locks.now.items c.args.who c.args.table c.args.mode c.deref.ensures.value c.in-None.ensures

pub returns-in_ok-push-in-None-clause-given : goal.returns-in_ok-push-in-None-clause-given
returns-in_ok-push-in-None-clause-given c =
    c.in_ok-push-in-None.ensures.items ∙ given_new c.deref.result.now c.args.locks.now.items c.args.who c.args.table c.args.mode c.deref.ensures.value c.in-None.ensures

pub returns-then-gained-clause-gained : goal.returns-then-gained-clause-gained
returns-then-gained-clause-gained c =
    c.gains-gained.ensures
    ∙ gained_at c.deref.result.now c.args.locks.now.items c.args.who c.args.table c.args.mode c.in-Some.place c.deref.ensures.value c.in-Some.ensures c.index_mut-lock.result.now c.index_mut-lock.ensures.value

pub returns-then-gained-clause-given : goal.returns-then-gained-clause-given
returns-then-gained-clause-given c =
    raised_at c.deref.result.now c.args.locks.now.items c.args.who c.args.table c.args.mode c.in-Some.place c.deref.ensures.value c.in-Some.ensures c.index_mut-lock.result.now c.index_mut-lock.ensures.value (sym c.gains-gained.ensures ∙ c.if-gained.true)

pub returns-else-gained-clause-gained : goal.returns-else-gained-clause-gained
returns-else-gained-clause-gained c =
    c.gains-gained.ensures
    ∙ gained_at c.deref.result.now c.args.locks.now.items c.args.who c.args.table c.args.mode c.in-Some.place c.deref.ensures.value c.in-Some.ensures c.index_mut-lock.result.now c.index_mut-lock.ensures.value

pub returns-else-gained-clause-given : goal.returns-else-gained-clause-given
returns-else-gained-clause-given c =
    kept_at c.deref.result.now c.args.locks.now.items c.args.who c.args.table c.args.mode c.in-Some.place c.deref.ensures.value c.in-Some.ensures c.index_mut-lock.result.now c.index_mut-lock.ensures.value (sym c.gains-gained.ensures ∙ c.if-gained.false)
