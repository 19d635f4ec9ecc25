use Rattle.std.proofs.Common.{◌≡◌, ◌∙◌, ap, sym, subst, IsTrue}
use Rattle.std.proofs.lemmas.Result.{on_ok_weaker}
use Rattle.early_pages.specs.Sparse.{sparse_page}
use Rattle.early_pages.specs.Catalog.{Catalog, snap_at}
use Rattle.early_pages.specs.Shown.{Shown, IsOpen, img, set_of, with_catalog}
use Rattle.early_pages.specs.Views.{KeepsViews}
use Rattle.early_pages.proofs.ViewLemmas.{read_keeps, seen_copied}
use Rattle.early_pages.proofs.early_pages.SnapPages.fetch_sparse.Goals as goal

pub returns-clause-seen : goal.returns-clause-seen
returns-clause-seen g c = λ told.
    let v : Shown = record { images = c.self.inside.images; cat = c.self.inside.cat } in
    let e : v ≡ c.args.self.now = c.self.view_is in
    on_ok_weaker c.read.result (λ is. is ∙ ap (λ (x : Shown). sparse_page (set_of x c.args.s) c.args.p) e ∙ seen_copied (img c.args.self.now) (set_of c.args.self.now c.args.s) c.args.p c.requires.copied)
    (c.read.ensures.reads.read (subst (λ (x : Shown). IsTrue (set_of x c.args.s).files.tells) (sym e) told))

pub returns-clause-views : goal.returns-clause-views
returns-clause-views g c =
    let v : Shown = record { images = c.self.inside.images; cat = c.self.inside.cat } in
    let e : v ≡ c.args.self.now = c.self.view_is in
    subst (λ (x : Shown). KeepsViews x (with_catalog v c.read.new.self)) e
    (subst (λ (cat : Catalog). KeepsViews v (with_catalog v cat)) (sym c.read.ensures.only)
    (read_keeps v c.args.s c.args.p c.read.new.into (snap_at c.read.new.self c.args.s).set c.read.result (subst (λ (x : Shown). IsOpen x c.args.s) (sym e) c.requires.snap) c.read.ensures.reads))
