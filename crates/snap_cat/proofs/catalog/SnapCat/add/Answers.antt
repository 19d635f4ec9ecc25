use Rattle.std.proofs.Common.{◌≡◌, ◌<◌, ◌+◌, length, sym, subst, arith}
use Rattle.snap_cat.specs.Catalog.{Catalog, IsCatalog, LacksName}
use Rattle.snap_cat.proofs.CatalogLemmas.{catalog_new}
use Rattle.snap_cat.proofs.catalog.SnapCat.add.Goals as goal

pub invariant_of-self : goal.invariant_of-self
invariant_of-self c =
    let v : Catalog = record { snaps = c.self.inside.snaps.items; next_cut = c.self.inside.next_cut } in
    let e : v ≡ c.args.self.now = c.self.view_is in
    let few : length v.snaps < 8 = subst (λ (x : Catalog). length x.snaps < 8) (sym e) c.requires.few in
    let lacks : LacksName v c.args.name = subst (λ (x : Catalog). LacksName x c.args.name) (sym e) c.requires.name in (
      subst (λ snaps. IsCatalog (record { snaps = snaps; next_cut = c.self.inside.next_cut + 1 })) (sym c.push_reserved.ensures.items) (catalog_new v c.args.name c.args.files c.args.owed c.self.invariant.0 few lacks),
      let cap = c.push_reserved.ensures.capacity in let room = c.self.invariant.1 in omega arith,
    )
