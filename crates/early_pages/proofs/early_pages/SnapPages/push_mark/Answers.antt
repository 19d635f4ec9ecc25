use Rattle.std.proofs.Common.{◌≡◌, sym, subst, true}
use Rattle.early_pages.specs.Sparse.{is_copied, sparse_page, marked}
use Rattle.early_pages.specs.Catalog.{Catalog}
use Rattle.early_pages.specs.Shown.{Shown, IsOpen, set_of, img, with_catalog}
use Rattle.early_pages.specs.Views.{KeepsViews, IsKept}
use Rattle.early_pages.proofs.ViewLemmas.{mark_keeps}
use Rattle.early_pages.proofs.early_pages.SnapPages.push_mark.Goals as goal

pub returns-clause-views : goal.returns-clause-views
returns-clause-views g c =
    let v : Shown = record { images = c.self.inside.images; cat = c.self.inside.cat } in
    let e : v ≡ c.args.self.now = c.self.view_is in
    let has : IsOpen v c.args.s = subst (λ (x : Shown). IsOpen x c.args.s) (sym e) c.requires.snap in
    let now : is_copied (marked (set_of v c.args.s) c.args.p) c.args.p ≡ true = c.mark.ensures.now in
    subst (λ (x : Shown). KeepsViews x (with_catalog v c.mark.new.self)) e
    (subst (λ (cat : Catalog). KeepsViews v (with_catalog v cat)) (sym c.mark.ensures.marked)
    (mark_keeps v c.args.s c.args.p has now (subst (λ (x : Shown). IsKept x c.args.s → sparse_page (set_of x c.args.s) c.args.p ≡ img x c.args.p) (sym e) c.requires.copied)))
