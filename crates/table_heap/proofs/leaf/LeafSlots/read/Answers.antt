use Rattle.std.proofs.Common.{◌≤◌, ◌∙◌, List, ℕ, ap, sym, subst}
use Rattle.page_fmt.specs.Spelling.{used}
use Rattle.table_heap.proofs.leaf.LeafSlots.read.Goals as goal

pub used-taken-requires : goal.used-taken-requires
used-taken-requires c = subst (λ (s : List (List ℕ)). used s ≤ 8192) (sym c.as_slice.ensures.value) c.in_ok-slots.ensures.fits.small

pub invariant_of-result : goal.invariant_of-result
invariant_of-result c = (c.used-taken.ensures ∙ ap used c.as_slice.ensures.value, c.in_ok-slots.ensures.fits)
