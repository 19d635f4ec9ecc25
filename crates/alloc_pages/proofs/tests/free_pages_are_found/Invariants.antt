-- The image stays a page.
use Rattle.page_fmt.specs.Content.{IsPage}
use Rattle.alloc_pages.proofs.tests.free_pages_are_found.Given as goal

abbrev pub invariant-loop-slot : goal.invariant-loop-slot
invariant-loop-slot g l = IsPage l.image
