-- One snapshot's entry in the catalog changes, and its cut stays.
use Rattle.std.proofs.Common.{get_or-set_same, get_or-set_other, ◌≡◌, ◌≤◌, ◌<◌, ℕ, inl, inr, List, [], ◌∷◌, ◌++◌, length, refl, ap, sym, ◌∙◌, subst}
use Rattle.std.proofs.Math.ListN.{set, length-set}
use Rattle.std.proofs.lemmas.Bool.{cases_eq}
use Rattle.page_base.specs.declared.numbers.PageId.{PageId}
use Rattle.page_base.specs.declared.numbers.SnapNo.{SnapNo}
use Rattle.rec_log.specs.Records.{Record, WorkOf}
use Rattle.buf_pool.specs.Pool.{Pooled, without_pin, pins as pool_pins}
use Rattle.snap_cat.specs.Catalog.{Snap, Catalog, no_snap, snap_at, HasSnap, with_state, with_owed}
use Rattle.snap_cat.specs.declared.snapshot.SnapState.{SnapState}
use Rattle.snap_pages.specs.Shown.{Shown, catalog, count, cut_of, IsOpen, owes_of, with_catalog}
use Rattle.snap_pages.specs.Owed.{count_on, AreOwed}
use Rattle.snap_pages.specs.Cuts.{place_of}
use Rattle.snap_pages.specs.Steps.{SamePlaces}
use Rattle.snap_pages.proofs.CutLemmas.{same_places}
use Rattle.snap_pages.proofs.PinLemmas.{last_pinned, owed_still}

abbrev pub swapped : Catalog → SnapNo → Snap → Catalog
swapped cat s x = record cat { snaps = set cat.snaps s.0 x }

module _ (cat : Catalog) (s : SnapNo) (x : Snap) (has : HasSnap cat s) where
  pub snap_here : snap_at (swapped cat s x) s ≡ x
  snap_here = get_or-set_same cat.snaps s.0 x no_snap has

  cut_same : x.cut ≡ (snap_at cat s).cut → (k : SnapNo) → (snap_at (swapped cat s x) k).cut ≡ (snap_at cat k).cut
  cut_same same k = elim (cases_eq k.0 s.0) [
    | inl e ↦
        let is : k ≡ s = λ i. record { 0 = e i } in
        ap (λ (j : SnapNo). (snap_at (swapped cat s x) j).cut) is ∙ ap (λ (y : Snap). y.cut) snap_here ∙ same ∙ sym (ap (λ (j : SnapNo). (snap_at cat j).cut) is)
    | inr ne ↦ ap (λ (y : Snap). y.cut) (get_or-set_other cat.snaps s.0 k.0 x no_snap ne)
  ]

swap_places : (v new : Shown) (s : SnapNo) (x : Snap) → IsOpen v s → catalog new ≡ swapped (catalog v) s x → x.cut ≡ cut_of v s → new.pool.files.counts ≡ v.pool.files.counts → SamePlaces v new
swap_places v new s x has is same counts = record {
  counts = counts;
  count = many;
  places = same_places v new many (λ k. ap (λ (c : Catalog). (snap_at c k).cut) is ∙ cut_same (catalog v) s x has same k);
}
  where
    many : count new ≡ count v
    many = ap (λ (c : Catalog). length c.snaps) is ∙ length-set (catalog v).snaps s.0 x

-- each cut has the place that it had
pub swap_place : (v : Shown) (s : SnapNo) (x : Snap) → IsOpen v s → x.cut ≡ cut_of v s → place_of (with_catalog v (swapped (catalog v) s x)) ≡ place_of v
swap_place v s x has same = (swap_places v (with_catalog v (swapped (catalog v) s x)) s x has refl same refl).places

pub state_places : (v : Shown) (s : SnapNo) (to : SnapState) (cat : Catalog) → IsOpen v s → cat ≡ with_state (catalog v) s to → SamePlaces v (with_catalog v cat)
state_places v s to cat has is = swap_places v (with_catalog v cat) s _ has is refl refl

pub owed_places : (v : Shown) (s : SnapNo) (owed : WorkOf) (pool : Pooled) → IsOpen v s → pool.files ≡ v.pool.files → SamePlaces v (record v { pool = pool; cat = with_owed (catalog v) s owed })
owed_places v s owed pool has files = swap_places v _ s _ has refl refl (λ i. (files i).counts)

-- the last record's page is pinned
pub last_is_pinned : (v : Shown) (s : SnapNo) (front : List Record) (r : Record) → owes_of v s ≡ front ++ r ∷ [] → AreOwed v s → 0 < pool_pins v.pool r.page
last_is_pinned v s front r was owed = last_pinned (pool_pins v.pool) front r (λ p. subst (λ l. count_on l p ≤ pool_pins v.pool p) was (owed p))

-- and all others hold their pins
pub others_are_owed : (v : Shown) (s : SnapNo) (owed : WorkOf) (r : Record) (pool : Pooled) → IsOpen v s → owes_of v s ≡ owed.recs ++ r ∷ [] → AreOwed v s → pool_pins pool ≡ without_pin (pool_pins v.pool) r.page
    → AreOwed (record v { pool = pool; cat = with_owed (catalog v) s owed }) s
others_are_owed v s owed r pool has was are pinned p =
    subst (λ l. count_on l p ≤ pool_pins pool p) (sym (ap (λ (y : Snap). y.owed.recs) (snap_here (catalog v) s _ has)))
    (subst (λ (f : PageId → ℕ). count_on owed.recs p ≤ f p) (sym pinned)
    (owed_still (pool_pins v.pool) owed.recs r (λ q. subst (λ l. count_on l q ≤ pool_pins v.pool q) was (are q)) p))
