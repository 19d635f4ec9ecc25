-- What is kept are all locks but one.
use Rattle.std.proofs.Common.{not, rules, tests}
use Rattle.std.proofs.lemmas.Fn.{filter_same}
use Rattle.lock_book.specs.declared.lock.Lock.{Lock}
use Rattle.lock_book.specs.Locks.{is_lock}
use Rattle.lock_book.proofs.book.cut_lock.Goals as goal

pub returns : goal.returns
returns c = filter_same _ (λ (lock : Lock). not (is_lock c.args.who c.args.table lock)) _ (λ lock kept after r. search (rules, tests)) _ _ c.retain.ensures.filtered
