use Rattle.std.proofs.Common.{◌≡◌, [], ◌∷◌}
use Rattle.page_base.specs.declared.limits.TheConstants.{MAX_FRAMES}
use Rattle.page_base.specs.declared.numbers.PageId.{PageId}
use Rattle.snap_pages.specs.Shown.{counts, pins}
use Rattle.page_times.proofs.pushes.pushed.Given as goal

abbrev pub invariant-loop-i : goal.invariant-loop-i
invariant-loop-i l = record { there : counts l.pages ≡ MAX_FRAMES ∷ []; free : (p : PageId) → pins l.pages p ≡ 0 }

abbrev pub invariant-loop-n : goal.invariant-loop-n
invariant-loop-n l = record { there : counts l.pages ≡ MAX_FRAMES ∷ []; free : (p : PageId) → pins l.pages p ≡ 0 }
