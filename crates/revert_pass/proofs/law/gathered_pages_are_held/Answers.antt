-- The page that came is the one that was pinned.
use Rattle.std.proofs.lemmas.Bool.{false≢true}
use Rattle.revert_pass.proofs.HeldLemmas.{held_more, pins_let_go, pushed_more}
use Rattle.revert_pass.proofs.law.gathered_pages_are_held.Goals as goal

pub returns-clause-none : goal.returns-clause-none
returns-clause-none c = λ v. (λ p h. absurd (false≢true h), λ p h. absurd (false≢true h))

pub returns-clause-more : goal.returns-clause-more
returns-clause-more c = λ s p old new got more adds pinned held. held_more s p old new got more adds pinned held

pub returns-clause-pushed : goal.returns-clause-pushed
returns-clause-pushed c = λ s p old new got more adds pushed is. pushed_more s p old new got more adds pushed is

pub returns-clause-pins : goal.returns-clause-pins
returns-clause-pins c = λ s p old got more f adds lacks. pins_let_go s p old old got more adds f lacks
