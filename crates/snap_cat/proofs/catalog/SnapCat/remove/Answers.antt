use Rattle.std.proofs.Common.{◌≡◌, sym, subst, arith}
use Rattle.snap_cat.specs.Catalog.{Catalog, IsCatalog, HasSnap}
use Rattle.snap_cat.proofs.CatalogLemmas.{catalog_without}
use Rattle.snap_cat.proofs.catalog.SnapCat.remove.Goals as goal

pub invariant_of-self : goal.invariant_of-self
invariant_of-self c =
    let v : Catalog = record { snaps = c.self.inside.snaps.items; next_cut = c.self.inside.next_cut } in
    let e : v ≡ c.args.self.now = c.self.view_is in (
      subst (λ snaps. IsCatalog (record { snaps = snaps; next_cut = c.self.inside.next_cut })) (sym c.remove-gone.ensures.items) (catalog_without v c.args.s (subst (λ (x : Catalog). HasSnap x c.args.s) (sym e) c.requires) c.self.invariant.0),
      let cap = c.remove-gone.ensures.capacity in let room = c.self.invariant.1 in omega arith,
    )
