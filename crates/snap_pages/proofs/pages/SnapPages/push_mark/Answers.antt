-- The page that is marked was copied.
use Rattle.std.proofs.Common.{◌≡◌, sym, subst}
use Rattle.sparse_set.specs.Sparse.{sparse_page}
use Rattle.snap_pages.specs.Shown.{Shown, IsOpen, img, set_of, with_set}
use Rattle.snap_pages.specs.Views.{IsKept, KeepsViews}
use Rattle.snap_pages.specs.Dues.{NoneNewDue}
use Rattle.snap_pages.proofs.SetLemmas.{set_marked, mark_dues}
use Rattle.snap_pages.proofs.pages.SnapPages.push_mark.Goals as goal

pub returns-clause-views : goal.returns-clause-views
returns-clause-views g c =
    let v : Shown = record { pool = c.self.inside.pool; cat = c.self.inside.cat; sets = c.self.inside.sets.items } in
    let e : v ≡ c.args.self.now = c.self.view_is in
    let there : IsOpen v c.args.s = subst (λ (x : Shown). IsOpen x c.args.s) (sym e) c.requires.snap in
    subst (λ (x : Shown). KeepsViews x (with_set v c.args.s c.mark.new.self)) e
    (set_marked v c.args.s c.self.invariant.0 there c.index_mut-set.result.now c.index_mut-set.ensures.value c.args.p c.mark.new.self c.mark.ensures.marked c.mark.ensures.here
    (subst (λ (x : Shown). IsKept x c.args.s → sparse_page (set_of x c.args.s) c.args.p ≡ img x c.args.p) (sym e) c.requires.copied))

pub returns-clause-dues : goal.returns-clause-dues
returns-clause-dues g c = λ q.
    let v : Shown = record { pool = c.self.inside.pool; cat = c.self.inside.cat; sets = c.self.inside.sets.items } in
    let e : v ≡ c.args.self.now = c.self.view_is in
    let there : IsOpen v c.args.s = subst (λ (x : Shown). IsOpen x c.args.s) (sym e) c.requires.snap in
    subst (λ (x : Shown). NoneNewDue x (with_set v c.args.s c.mark.new.self) q) e
    (mark_dues v c.args.s c.self.invariant.0 there c.index_mut-set.result.now c.index_mut-set.ensures.value c.args.p c.mark.new.self c.mark.ensures.marked c.mark.ensures.here q)
