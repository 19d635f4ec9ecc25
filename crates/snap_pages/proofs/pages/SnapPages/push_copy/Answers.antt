-- The page that is written isn't in the map.
use Rattle.std.proofs.Common.{◌≡◌, false, sym, subst}
use Rattle.sparse_set.specs.Sparse.{is_copied}
use Rattle.snap_pages.specs.Shown.{Shown, IsOpen, set_of, with_set}
use Rattle.snap_pages.specs.Views.{KeepsViews}
use Rattle.snap_pages.proofs.SetLemmas.{set_copied}
use Rattle.snap_pages.proofs.pages.SnapPages.push_copy.Goals as goal

pub returns-clause-views : goal.returns-clause-views
returns-clause-views g c =
    let v : Shown = record { pool = c.self.inside.pool; cat = c.self.inside.cat; sets = c.self.inside.sets.items } in
    let e : v ≡ c.args.self.now = c.self.view_is in
    let there : IsOpen v c.args.s = subst (λ (x : Shown). IsOpen x c.args.s) (sym e) c.requires.snap in
    let lacks : is_copied (set_of v c.args.s) c.args.p ≡ false = subst (λ (x : Shown). is_copied (set_of x c.args.s) c.args.p ≡ false) (sym e) c.requires.lacks in
    subst (λ (x : Shown). KeepsViews x (with_set v c.args.s c.copy.new.self)) e
    (set_copied v c.args.s c.self.invariant.0 there c.index_mut-set.result.now c.index_mut-set.ensures.value c.args.p c.image.result.now c.copy.new.self c.copy.result lacks c.copy.ensures)
