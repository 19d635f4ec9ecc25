-- No slot so far is free.
use Rattle.std.proofs.Common.{◌≢◌, ℕ, ◌<◌}
use Rattle.page_fmt.specs.Content.{content}
use Rattle.alloc_pages.specs.Owners.{owner_at}
use Rattle.alloc_pages.proofs.owners.first_free.Given as goal

abbrev pub invariant-loop-i : goal.invariant-loop-i
invariant-loop-i l = (j : ℕ) → j < l.i → owner_at (content l.image) j ≢ 0
