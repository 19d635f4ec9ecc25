-- The snapshot's cut stays.
use Rattle.std.proofs.Common.{◌≡◌, sym, subst}
use Rattle.snap_pages.specs.Shown.{Shown, IsOpen, with_catalog}
use Rattle.snap_pages.specs.Steps.{SamePlaces}
use Rattle.snap_pages.proofs.OwedLemmas.{state_places}
use Rattle.snap_pages.proofs.pages.SnapPages.set_state.Goals as goal

pub returns-clause-places : goal.returns-clause-places
returns-clause-places g c =
    let v : Shown = record { pool = c.self.inside.pool; cat = c.self.inside.cat; sets = c.self.inside.sets.items } in
    let e : v ≡ c.args.self.now = c.self.view_is in
    subst (λ (x : Shown). SamePlaces x (with_catalog v c.set_state.new.self)) e
    (state_places v c.args.s c.args.to c.set_state.new.self (subst (λ (x : Shown). IsOpen x c.args.s) (sym e) c.requires) c.set_state.ensures)
