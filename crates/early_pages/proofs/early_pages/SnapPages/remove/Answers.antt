use Rattle.std.proofs.Common.{◌≡◌, sym, subst}
use Rattle.early_pages.specs.Catalog.{Catalog}
use Rattle.early_pages.specs.Shown.{Shown, IsOpen, IsWhole, with_catalog}
use Rattle.early_pages.specs.Views.{ClosesUp}
use Rattle.early_pages.proofs.ViewLemmas.{closes_up, whole_without}
use Rattle.early_pages.proofs.early_pages.SnapPages.remove.Goals as goal

pub invariant_of-self : goal.invariant_of-self
invariant_of-self g c =
    let v : Shown = record { images = c.self.inside.images; cat = c.self.inside.cat } in
    let e : v ≡ c.args.self.now = c.self.view_is in
    subst (λ (cat : Catalog). IsWhole (with_catalog v cat)) (sym c.remove.ensures.removed) (whole_without v c.args.s c.self.invariant (subst (λ (x : Shown). IsOpen x c.args.s) (sym e) c.requires))

pub returns-clause-views : goal.returns-clause-views
returns-clause-views g c =
    let v : Shown = record { images = c.self.inside.images; cat = c.self.inside.cat } in
    let e : v ≡ c.args.self.now = c.self.view_is in
    subst (λ (x : Shown). ClosesUp c.args.s x (with_catalog v c.remove.new.self)) e
    (subst (λ (cat : Catalog). ClosesUp c.args.s v (with_catalog v cat)) (sym c.remove.ensures.removed) (closes_up v c.args.s (subst (λ (x : Shown). IsOpen x c.args.s) (sym e) c.requires)))
