use Rattle.std.proofs.Common.{◌≡◌, sym, subst, false}
use Rattle.early_pages.specs.Sparse.{is_copied}
use Rattle.early_pages.specs.Catalog.{Catalog, snap_at}
use Rattle.early_pages.specs.Shown.{Shown, IsOpen, set_of, with_catalog}
use Rattle.early_pages.specs.Views.{KeepsViews}
use Rattle.early_pages.proofs.ViewLemmas.{copy_keeps}
use Rattle.early_pages.proofs.early_pages.SnapPages.push_copy.Goals as goal

pub returns-clause-views : goal.returns-clause-views
returns-clause-views g c =
    let v : Shown = record { images = c.self.inside.images; cat = c.self.inside.cat } in
    let e : v ≡ c.args.self.now = c.self.view_is in
    subst (λ (x : Shown). KeepsViews x (with_catalog v c.copy.new.self)) e
    (subst (λ (cat : Catalog). KeepsViews v (with_catalog v cat)) (sym c.copy.ensures.only)
    (copy_keeps v c.args.s c.args.p c.get.result.now (snap_at c.copy.new.self c.args.s).set c.copy.result (subst (λ (x : Shown). IsOpen x c.args.s) (sym e) c.requires.snap) (subst (λ (x : Shown). is_copied (set_of x c.args.s) c.args.p ≡ false) (sym e) c.requires.lacks) c.copy.ensures.copies))
