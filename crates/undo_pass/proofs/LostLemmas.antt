-- A snapshot that turns suspect is promised nothing, and the others stay.
use Rattle.std.proofs.Common.{get_or-set_same, get_or-set_other, ◌≡◌, ◌≢◌, inl, inr, ap, sym, subst}
use Rattle.std.proofs.lemmas.Bool.{cases_eq}
use Rattle.page_base.specs.declared.numbers.SnapNo.{SnapNo}
use Rattle.snap_cat.specs.Catalog.{Snap, Catalog, no_snap, snap_at, HasSnap, with_state}
use Rattle.snap_cat.specs.declared.snapshot.SnapState.TheVariants.{Suspect}
use Rattle.snap_pages.specs.Shown.{Shown, catalog, IsOpen, with_catalog}
use Rattle.snap_pages.specs.Views.{view, IsKept, KeepsViews}
use Rattle.undo_pass.specs.Heals.{IsUnhealed}

state_there : (cat : Catalog) (s : SnapNo) → HasSnap cat s → (snap_at (with_state cat s Suspect) s).state ≡ Suspect
state_there cat s has = ap (λ (x : Snap). x.state) (get_or-set_same cat.snaps s.0 (record (snap_at cat s) { state = Suspect }) no_snap has)

state_else : (cat : Catalog) (s k : SnapNo) → k.0 ≢ s.0 → snap_at (with_state cat s Suspect) k ≡ snap_at cat k
state_else cat s k ne = get_or-set_other cat.snaps s.0 k.0 (record (snap_at cat s) { state = Suspect }) no_snap ne

pub lost_keeps : (s : SnapNo) (old mid new : Shown) → IsOpen old s → IsUnhealed s old mid → new ≡ with_catalog mid (with_state (catalog mid) s Suspect) → KeepsViews old new
lost_keeps s old mid new has un is = subst (λ (x : Shown). KeepsViews old x) (sym is) (record { each = each })
  where
    there : HasSnap (catalog mid) s
    there = subst (λ (c : Catalog). HasSnap c s) (sym un.cat) has

    each : (k : SnapNo) → IsKept (with_catalog mid (with_state (catalog mid) s Suspect)) k → IsKept old k × (view (with_catalog mid (with_state (catalog mid) s Suspect)) k ≡ view old k)
    each k kept = elim (cases_eq k.0 s.0) [
      | inl e ↦ absurd (kept.sound (subst (λ (j : SnapNo). (snap_at (with_state (catalog mid) s Suspect) j).state ≡ Suspect) (λ i. record { 0 = sym e i }) (state_there (catalog mid) s there)))
      | inr ne ↦ un.stay.views k (λ same. ne (ap (λ (j : SnapNo). j.0) same)) (record {
        sound = subst (λ (x : Snap). x.state ≢ Suspect) (state_else (catalog mid) s k ne) kept.sound;
        tells = kept.tells;
        source = kept.source;
      })
    ]
