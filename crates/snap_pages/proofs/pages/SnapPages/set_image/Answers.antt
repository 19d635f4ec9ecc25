-- No snapshot lacks the page.
use Rattle.std.proofs.Common.{◌≡◌, sym, subst}
use Rattle.snap_pages.specs.Shown.{Shown}
use Rattle.snap_pages.specs.Views.{KeepsViews}
use Rattle.snap_pages.specs.Dues.{IsPushed}
use Rattle.snap_pages.proofs.SourceLemmas.{with_pool, change_keeps}
use Rattle.snap_pages.proofs.pages.SnapPages.set_image.Goals as goal

pub returns-clause-views : goal.returns-clause-views
returns-clause-views g c =
    let v : Shown = record { pool = c.self.inside.pool; cat = c.self.inside.cat; sets = c.self.inside.sets.items } in
    let e : v ≡ c.args.self.now = c.self.view_is in
    subst (λ (x : Shown). KeepsViews x (with_pool v c.set_image.new.self)) e
    (change_keeps v c.set_image.new.self c.args.p c.args.from.now (subst (λ (x : Shown). IsPushed x c.args.p) (sym e) c.requires.pushed) c.set_image.ensures.img c.set_image.ensures.holds)
