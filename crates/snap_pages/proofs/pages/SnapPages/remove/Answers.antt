-- The later snapshots close up, and the pins of the one that goes are taken back.
use Rattle.std.proofs.Common.{◌≡◌, ◌≤◌, ap, sym, subst, ◌∙◌, arith}
use Rattle.rec_log.specs.Records.{WorkOf}
use Rattle.buf_pool.specs.Pool.{pins as pool_pins}
use Rattle.snap_pages.specs.Shown.{Shown, IsOpen, cut_of}
use Rattle.snap_pages.specs.Views.{ClosesUp}
use Rattle.snap_pages.specs.Owed.{AreOwed, count_on}
use Rattle.snap_pages.specs.Cuts.{GoesBy}
use Rattle.snap_pages.proofs.ShrinkLemmas.{Shrinks, shrunk, whole_less, closes_up, goes}
use Rattle.snap_pages.proofs.pages.SnapPages.remove.Goals as goal

pub unpin_each-requires : goal.unpin_each-requires
unpin_each-requires g c = λ p.
    let v : Shown = record { pool = c.self.inside.pool; cat = c.self.inside.cat; sets = c.self.inside.sets.items } in
    let e : v ≡ c.args.self.now = c.self.view_is in
    let owed : AreOwed v c.args.s = subst (λ (x : Shown). AreOwed x c.args.s) (sym e) c.requires.owed in
    subst (λ l. count_on l p ≤ pool_pins v.pool p) (sym (c.as_slice.ensures ∙ ap (λ (w : WorkOf). w.recs) c.owes.ensures)) (owed p)

pub invariant_of-self : goal.invariant_of-self
invariant_of-self g c =
    let v : Shown = record { pool = c.self.inside.pool; cat = c.self.inside.cat; sets = c.self.inside.sets.items } in
    let e : v ≡ c.args.self.now = c.self.view_is in
    let there : IsOpen v c.args.s = subst (λ (x : Shown). IsOpen x c.args.s) (sym e) c.requires.snap in
    let new : Shown = record { pool = c.unpin_each.new.pool; cat = c.remove.new.self; sets = c.remove-2.new.self.items } in
    let shrinks : Shrinks c.args.s v new = shrunk c.args.s v new.pool new.cat new.sets c.unpin_each.ensures.shown c.remove.ensures c.remove-2.ensures.items in (
      whole_less c.args.s v new c.self.invariant.0 there shrinks,
      let cap = c.remove-2.ensures.capacity in let room = c.self.invariant.1 in omega arith,
    )

pub returns-clause-cuts : goal.returns-clause-cuts
returns-clause-cuts g c =
    let v : Shown = record { pool = c.self.inside.pool; cat = c.self.inside.cat; sets = c.self.inside.sets.items } in
    let e : v ≡ c.args.self.now = c.self.view_is in
    let there : IsOpen v c.args.s = subst (λ (x : Shown). IsOpen x c.args.s) (sym e) c.requires.snap in
    let new : Shown = record { pool = c.unpin_each.new.pool; cat = c.remove.new.self; sets = c.remove-2.new.self.items } in
    let shrinks : Shrinks c.args.s v new = shrunk c.args.s v new.pool new.cat new.sets c.unpin_each.ensures.shown c.remove.ensures c.remove-2.ensures.items in
    subst (λ (x : Shown). GoesBy (cut_of x c.args.s) x new) e (goes c.args.s v new c.self.invariant.0 there shrinks c.count-snaps.ensures.catalog)

pub returns-clause-views : goal.returns-clause-views
returns-clause-views g c =
    let v : Shown = record { pool = c.self.inside.pool; cat = c.self.inside.cat; sets = c.self.inside.sets.items } in
    let e : v ≡ c.args.self.now = c.self.view_is in
    let there : IsOpen v c.args.s = subst (λ (x : Shown). IsOpen x c.args.s) (sym e) c.requires.snap in
    let new : Shown = record { pool = c.unpin_each.new.pool; cat = c.remove.new.self; sets = c.remove-2.new.self.items } in
    let shrinks : Shrinks c.args.s v new = shrunk c.args.s v new.pool new.cat new.sets c.unpin_each.ensures.shown c.remove.ensures c.remove-2.ensures.items in
    subst (λ (x : Shown). ClosesUp c.args.s x new) e (closes_up c.args.s v new c.self.invariant.0 there shrinks)
