-- A pinned page is in memory.
use Rattle.std.proofs.Common.{◌≡◌, subst}
use Rattle.page_base.specs.declared.numbers.PageId.{PageId}
use Rattle.page_fmt.specs.Content.{IsPage}
use Rattle.snap_pages.specs.Shown.{Shown, img, IsPinned, IsThere}
use Rattle.snap_pages.proofs.PinLemmas.{pinned_pooled}
use Rattle.snap_pages.proofs.pages.SnapPages.pool.Goals as goal

pub returns-clause-there : goal.returns-clause-there
returns-clause-there g c =
    let v : Shown = record { pool = c.self.inside.pool; cat = c.self.inside.cat; sets = c.self.inside.sets.items } in
    let e : v ≡ c.args.self.now = c.self.view_is in
    subst (λ (x : Shown). (p : PageId) → IsPinned x p → IsThere x p × IsPage (img x p)) e
    (λ p pinned. let pooled = pinned_pooled v.pool p pinned in (c.keeps_pages.ensures.there p pooled, c.keeps_pages.ensures.spelled p pooled))
