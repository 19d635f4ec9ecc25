-- What is kept are the locks of the others.
use Rattle.std.proofs.Common.{◌==◌, not, rules, tests}
use Rattle.std.proofs.lemmas.Fn.{filter_same}
use Rattle.lock_book.specs.declared.lock.Lock.{Lock}
use Rattle.lock_book.proofs.book.cut_session.Goals as goal

pub returns : goal.returns
returns c = filter_same _ (λ (lock : Lock). not (lock.who.0 == c.args.who.0)) _ (λ lock kept after r. search (rules, tests)) _ _ c.retain.ensures.filtered
