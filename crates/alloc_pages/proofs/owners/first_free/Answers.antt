-- No slot of the page is free, and none past its last one.
use Rattle.std.proofs.Common.{length, inl, inr, arith}
use Rattle.std.proofs.lemmas.Bool.{cases_lt}
use Rattle.page_fmt.specs.Content.{content}
use Rattle.alloc_pages.proofs.OwnerLemmas.{owner_at-past_free}
use Rattle.alloc_pages.proofs.owners.first_free.Goals as goal

pub returns : goal.returns
returns c = λ i. elim (cases_lt i (length (content c.args.image.now))) [
  | inl within ↦ c.loop-i.invariant i (omega arith)
  | inr past ↦ owner_at-past_free (content c.args.image.now) i past
]
