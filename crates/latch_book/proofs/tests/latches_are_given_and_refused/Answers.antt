-- Each session holds nothing when it asks: all calls before were of other sessions.
use Rattle.std.proofs.Common.{◌≡◌, ◌≢◌, ℕ, None, ◌∙◌, arith}
use Rattle.page_base.specs.declared.numbers.SessNo.{SessNo}
use Rattle.latch_book.specs.Latches.{Latches, latch_of}
use Rattle.latch_book.proofs.LatchLemmas.{apart}
use Rattle.latch_book.proofs.tests.latches_are_given_and_refused.Goals as goal

abbrev session : ℕ → SessNo
session n = record { 0 = n }

-- what a call of session k leaves to session n
after : (n k : ℕ) (old new : Latches) → ((j : SessNo) → j ≢ session k → latch_of new j ≡ latch_of old j) → n ≢ k → latch_of old (session n) ≡ None → latch_of new (session n) ≡ None
after n k old new others ne none = others (session n) (apart (session n) (session k) ne) ∙ none

pub try_sh-requires-clause-none : goal.try_sh-requires-clause-none
try_sh-requires-clause-none g c = c.new-book.ensures.none (session 1)

pub try_ex-requires-clause-none : goal.try_ex-requires-clause-none
try_ex-requires-clause-none g c = after 2 1 _ _ c.try_sh.ensures.others (omega arith) (c.new-book.ensures.none (session 2))

pub try_sh-requires-2-clause-none : goal.try_sh-requires-2-clause-none
try_sh-requires-2-clause-none g c = after 64 2 _ _ c.try_ex.ensures.others (omega arith) (after 64 1 _ _ c.try_sh.ensures.others (omega arith) (c.new-book.ensures.none (session 64)))

pub try_ex-requires-2-clause-none : goal.try_ex-requires-2-clause-none
try_ex-requires-2-clause-none g c =
    after 3 1 _ _ c.release.ensures.others (omega arith) (after 3 64 _ _ c.try_sh-2.ensures.others (omega arith)
    (after 3 2 _ _ c.try_ex.ensures.others (omega arith) (after 3 1 _ _ c.try_sh.ensures.others (omega arith) (c.new-book.ensures.none (session 3)))))

pub try_ex-requires-3-clause-none : goal.try_ex-requires-3-clause-none
try_ex-requires-3-clause-none g c =
    after 4 64 _ _ c.release-2.ensures.others (omega arith) (after 4 3 _ _ c.try_ex-2.ensures.others (omega arith)
    (after 4 1 _ _ c.release.ensures.others (omega arith) (after 4 64 _ _ c.try_sh-2.ensures.others (omega arith)
    (after 4 2 _ _ c.try_ex.ensures.others (omega arith) (after 4 1 _ _ c.try_sh.ensures.others (omega arith) (c.new-book.ensures.none (session 4)))))))

pub try_sh-requires-3-clause-none : goal.try_sh-requires-3-clause-none
try_sh-requires-3-clause-none g c =
    after 5 4 _ _ c.try_ex-3.ensures.others (omega arith)
    (after 5 64 _ _ c.release-2.ensures.others (omega arith) (after 5 3 _ _ c.try_ex-2.ensures.others (omega arith)
    (after 5 1 _ _ c.release.ensures.others (omega arith) (after 5 64 _ _ c.try_sh-2.ensures.others (omega arith)
    (after 5 2 _ _ c.try_ex.ensures.others (omega arith) (after 5 1 _ _ c.try_sh.ensures.others (omega arith) (c.new-book.ensures.none (session 5))))))))
