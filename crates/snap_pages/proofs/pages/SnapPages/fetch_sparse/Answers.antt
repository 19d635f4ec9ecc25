-- The snapshot's sparse files are read in their place.
use Rattle.std.proofs.Common.{◌≡◌, true, IsTrue, sym, subst}
use Rattle.std.specs.Prelude.{OnOk}
use Rattle.sparse_set.specs.Sparse.{is_copied}
use Rattle.snap_pages.specs.Shown.{Shown, IsOpen, set_of, with_set}
use Rattle.snap_pages.specs.Views.{view, KeepsViews}
use Rattle.snap_pages.proofs.SetLemmas.{set_read, read_is_seen}
use Rattle.snap_pages.proofs.pages.SnapPages.fetch_sparse.Goals as goal

pub returns-clause-seen : goal.returns-clause-seen
returns-clause-seen g c =
    let v : Shown = record { pool = c.self.inside.pool; cat = c.self.inside.cat; sets = c.self.inside.sets.items } in
    let e : v ≡ c.args.self.now = c.self.view_is in
    let there : IsOpen v c.args.s = subst (λ (x : Shown). IsOpen x c.args.s) (sym e) c.requires.snap in
    let named : is_copied (set_of v c.args.s) c.args.p ≡ true = subst (λ (x : Shown). is_copied (set_of x c.args.s) c.args.p ≡ true) (sym e) c.requires.copied in
    subst (λ (x : Shown). IsTrue (set_of x c.args.s).files.tells → OnOk c.read.result (c.read.new.into ≡ view x c.args.s c.args.p)) e
    (read_is_seen v c.args.s c.self.invariant.0 there c.index_mut-set.result.now c.index_mut-set.ensures.value c.args.p c.read.new.into c.read.new.self c.read.result named c.read.ensures)

pub returns-clause-views : goal.returns-clause-views
returns-clause-views g c =
    let v : Shown = record { pool = c.self.inside.pool; cat = c.self.inside.cat; sets = c.self.inside.sets.items } in
    let e : v ≡ c.args.self.now = c.self.view_is in
    let there : IsOpen v c.args.s = subst (λ (x : Shown). IsOpen x c.args.s) (sym e) c.requires.snap in
    subst (λ (x : Shown). KeepsViews x (with_set v c.args.s c.read.new.self)) e
    (set_read v c.args.s c.self.invariant.0 there c.index_mut-set.result.now c.index_mut-set.ensures.value c.args.p c.read.new.into c.read.new.self c.read.result c.read.ensures)
