use Rattle.std.proofs.Common.{◌≡◌, sym, subst}
use Rattle.early_pages.specs.Catalog.{Catalog}
use Rattle.early_pages.specs.Shown.{Shown, with_catalog}
use Rattle.early_pages.specs.Views.{CutsView}
use Rattle.early_pages.proofs.ViewLemmas.{cut_views}
use Rattle.early_pages.proofs.early_pages.SnapPages.add.Goals as goal

pub returns-clause-views : goal.returns-clause-views
returns-clause-views g c =
    let v : Shown = record { images = c.self.inside.images; cat = c.self.inside.cat } in
    let e : v ≡ c.args.self.now = c.self.view_is in
    subst (λ (x : Shown). CutsView x (with_catalog v c.add.new.self)) e
    (subst (λ (cat : Catalog). CutsView v (with_catalog v cat)) (sym c.add.ensures.added) (cut_views v c.args.name c.args.files c.args.set c.requires.empty))
