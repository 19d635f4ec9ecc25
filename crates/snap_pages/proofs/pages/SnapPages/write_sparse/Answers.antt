-- The page that is written is in the map.
use Rattle.std.proofs.Common.{◌≡◌, true, sym, subst}
use Rattle.sparse_set.specs.Sparse.{is_copied}
use Rattle.snap_pages.specs.Shown.{Shown, IsOpen, set_of, with_set}
use Rattle.snap_pages.specs.Views.{WritesView}
use Rattle.snap_pages.proofs.SetLemmas.{set_written}
use Rattle.snap_pages.proofs.pages.SnapPages.write_sparse.Goals as goal

pub returns-clause-views : goal.returns-clause-views
returns-clause-views g c =
    let v : Shown = record { pool = c.self.inside.pool; cat = c.self.inside.cat; sets = c.self.inside.sets.items } in
    let e : v ≡ c.args.self.now = c.self.view_is in
    let there : IsOpen v c.args.s = subst (λ (x : Shown). IsOpen x c.args.s) (sym e) c.requires.snap in
    let named : is_copied (set_of v c.args.s) c.args.p ≡ true = subst (λ (x : Shown). is_copied (set_of x c.args.s) c.args.p ≡ true) (sym e) c.requires.copied in
    subst (λ (x : Shown). WritesView c.args.s c.args.p c.args.from.now x (with_set v c.args.s c.copy.new.self) c.copy.result) e
    (set_written v c.args.s c.self.invariant.0 there c.index_mut-set.result.now c.index_mut-set.ensures.value c.args.p c.args.from.now c.copy.new.self c.copy.result named c.copy.ensures)
