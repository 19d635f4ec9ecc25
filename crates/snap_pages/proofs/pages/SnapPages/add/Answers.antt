-- The new snapshot stands behind all others, with a pin for each record that it owes.
use Rattle.std.proofs.Common.{◌≡◌, ap, subst, ◌∙◌}
use Rattle.buf_pool.specs.Pool.{pins as pool_pins}
use Rattle.snap_cat.specs.Catalog.{Snap, Catalog}
use Rattle.snap_cat.specs.declared.snapshot.SnapState.TheVariants.{Making}
use Rattle.snap_pages.specs.Shown.{Shown}
use Rattle.snap_pages.specs.Views.{CutsView}
use Rattle.snap_pages.specs.Owed.{with_pins_of}
use Rattle.snap_pages.specs.Cuts.{ComesBy}
use Rattle.snap_pages.proofs.GrowLemmas.{Grows, grown, cut_views, comes, new_owed}
use Rattle.snap_pages.proofs.pages.SnapPages.add.Goals as goal

pub returns-clause-owed : goal.returns-clause-owed
returns-clause-owed g c =
    let v : Shown = record { pool = c.self.inside.pool; cat = c.self.inside.cat; sets = c.self.inside.sets.items } in
    let x : Snap = record { name = c.args.name; files = c.args.files; cut = v.cat.next_cut; state = Making; owed = c.args.owed } in
    let new : Shown = record { pool = c.pin_each.new.pool; cat = c.add.new.self; sets = c.push_reserved.new.self.items } in
    let grows : Grows x c.args.set v new = grown v new.pool new.cat new.sets x c.args.set c.pin_each.ensures.shown (ap (λ (cat : Catalog). cat.snaps) c.add.ensures.added) c.push_reserved.ensures.items in
    new_owed x c.args.set v new c.self.invariant.0 grows c.add.result c.add.ensures.place (c.pin_each.ensures.pins ∙ ap (λ l. with_pins_of l (pool_pins v.pool)) c.as_slice.ensures)

pub returns-clause-cuts : goal.returns-clause-cuts
returns-clause-cuts g c =
    let v : Shown = record { pool = c.self.inside.pool; cat = c.self.inside.cat; sets = c.self.inside.sets.items } in
    let e : v ≡ c.args.self.now = c.self.view_is in
    let x : Snap = record { name = c.args.name; files = c.args.files; cut = v.cat.next_cut; state = Making; owed = c.args.owed } in
    let new : Shown = record { pool = c.pin_each.new.pool; cat = c.add.new.self; sets = c.push_reserved.new.self.items } in
    let grows : Grows x c.args.set v new = grown v new.pool new.cat new.sets x c.args.set c.pin_each.ensures.shown (ap (λ (cat : Catalog). cat.snaps) c.add.ensures.added) c.push_reserved.ensures.items in
    subst (λ (y : Shown). ComesBy y.cat.next_cut y new) e (comes x c.args.set v new c.self.invariant.0 grows c.count-snaps.ensures.catalog.below)

pub returns-clause-views : goal.returns-clause-views
returns-clause-views g c =
    let v : Shown = record { pool = c.self.inside.pool; cat = c.self.inside.cat; sets = c.self.inside.sets.items } in
    let e : v ≡ c.args.self.now = c.self.view_is in
    let x : Snap = record { name = c.args.name; files = c.args.files; cut = v.cat.next_cut; state = Making; owed = c.args.owed } in
    let new : Shown = record { pool = c.pin_each.new.pool; cat = c.add.new.self; sets = c.push_reserved.new.self.items } in
    let grows : Grows x c.args.set v new = grown v new.pool new.cat new.sets x c.args.set c.pin_each.ensures.shown (ap (λ (cat : Catalog). cat.snaps) c.add.ensures.added) c.push_reserved.ensures.items in
    subst (λ (y : Shown). CutsView y new) e (cut_views x c.args.set v new c.self.invariant.0 grows c.requires.empty)
