use Rattle.std.proofs.Common.{◌≡◌, ◌<◌, length, sym, subst, arith}
use Rattle.snap_cat.specs.Catalog.{Catalog, IsCatalog, LacksName, IsBehind}
use Rattle.snap_cat.proofs.CatalogLemmas.{catalog_more}
use Rattle.snap_cat.proofs.catalog.SnapCat.opened.Goals as goal

pub invariant_of-self : goal.invariant_of-self
invariant_of-self c =
    let v : Catalog = record { snaps = c.self.inside.snaps.items; next_cut = c.self.inside.next_cut } in
    let e : v ≡ c.args.self.now = c.self.view_is in
    let few : length v.snaps < 8 = subst (λ (x : Catalog). length x.snaps < 8) (sym e) c.requires.few in
    let lacks : LacksName v c.args.name = subst (λ (x : Catalog). LacksName x c.args.name) (sym e) c.requires.name in
    let above : IsBehind v c.args.cut = subst (λ (x : Catalog). IsBehind x c.args.cut) (sym e) c.requires.above in
    let below : c.args.cut < v.next_cut = subst (λ (x : Catalog). c.args.cut < x.next_cut) (sym e) c.requires.below in (
      subst (λ snaps. IsCatalog (record { snaps = snaps; next_cut = c.self.inside.next_cut })) (sym c.push_reserved.ensures.items) (catalog_more v _ v.next_cut c.self.invariant.0 few lacks above below (omega arith)),
      let cap = c.push_reserved.ensures.capacity in let room = c.self.invariant.1 in omega arith,
    )
