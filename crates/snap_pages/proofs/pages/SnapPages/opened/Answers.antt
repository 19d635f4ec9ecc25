-- The snapshot that is taken in stands behind all others.
use Rattle.std.proofs.Common.{◌≡◌, [], ap, refl, sym, subst}
use Rattle.snap_cat.specs.Catalog.{Snap, Catalog, IsBehind}
use Rattle.snap_pages.specs.Shown.{Shown}
use Rattle.snap_pages.specs.Cuts.{ComesBy}
use Rattle.snap_pages.proofs.GrowLemmas.{Grows, grown, comes}
use Rattle.snap_pages.proofs.pages.SnapPages.opened.Goals as goal

pub returns-clause-cuts : goal.returns-clause-cuts
returns-clause-cuts g c =
    let v : Shown = record { pool = c.self.inside.pool; cat = c.self.inside.cat; sets = c.self.inside.sets.items } in
    let e : v ≡ c.args.self.now = c.self.view_is in
    let x : Snap = record { name = c.args.name; files = c.args.files; cut = c.args.cut; state = c.args.state; owed = record { recs = []; spare = 0 } } in
    let new : Shown = record { pool = v.pool; cat = c.opened.new.self; sets = c.push_reserved.new.self.items } in
    let grows : Grows x c.args.set v new = grown v v.pool new.cat new.sets x c.args.set (record { images = refl; order = refl; files = refl; frames = refl }) (ap (λ (cat : Catalog). cat.snaps) c.opened.ensures.added) c.push_reserved.ensures.items in
    subst (λ (y : Shown). ComesBy c.args.cut y new) e (comes x c.args.set v new c.self.invariant.0 grows (subst (λ (y : Shown). IsBehind y.cat c.args.cut) (sym e) c.requires.above))
