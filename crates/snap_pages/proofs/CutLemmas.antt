-- Snapshots by the numbers of their cuts.
use Rattle.std.proofs.Common.{◌≡◌, ◌≢◌, ℕ, ◌+◌, ◌<◌, Bool, ◌==◌, Option, Some, None, option_map, refl, ap, sym, ◌∙◌, arith, subst, eq-eqb, eqb-true}
use Rattle.std.proofs.lemmas.Bool.{ne_eqb, false≢true}
use Rattle.page_base.specs.declared.numbers.SnapNo.{SnapNo}
use Rattle.snap_cat.specs.Catalog.{Catalog, IsCatalog, snap_at}
use Rattle.snap_pages.specs.Shown.{Shown, IsOpen, count, catalog, cut_of, set_of}
use Rattle.snap_pages.specs.Places.{first_from}
use Rattle.snap_pages.specs.Cuts.{place_in, place_of, snap_by}
use Rattle.snap_pages.specs.Steps.{ChangesSet}
use Rattle.snap_pages.proofs.PlaceLemmas.{Answers, first_from_is, first_from_none, first_from_answers}

-- whether a place is that of a cut
abbrev pub has_cut : Shown → ℕ → SnapNo → Bool
has_cut v c s = cut_of v s == c

-- THE PLACE OF A CUT

pub place_is : (v : Shown) (c : ℕ) (s : SnapNo) → IsOpen v s → cut_of v s ≡ c → ((k : SnapNo) → k.0 < s.0 → cut_of v k ≢ c) → place_of v c ≡ Some s
unfolding place_in
place_is v c s there is before =
    first_from_is (has_cut v c) 0 (count v) s (record { above = omega arith; below = omega arith; passes = eq-eqb (cut_of v s) c is; before = λ k ge lt. ne_eqb (cut_of v k) c (before k lt) })

pub place_none : (v : Shown) (c : ℕ) → ((k : SnapNo) → IsOpen v k → cut_of v k ≢ c) → place_of v c ≡ None
unfolding place_in
place_none v c lacks = first_from_none (has_cut v c) 0 (count v) (λ k ge lt. ne_eqb (cut_of v k) c (lacks k (omega arith)))

-- what is at the place that is answered
pub record IsPlace (v : Shown) (c : ℕ) (s : SnapNo) : Type 0 where
  pub there : IsOpen v s
  pub is : cut_of v s ≡ c
  pub before : (k : SnapNo) → k.0 < s.0 → cut_of v k ≢ c

abbrev pub Places : Shown → ℕ → Option SnapNo → Type 0
Places v c None = (k : SnapNo) → IsOpen v k → cut_of v k ≢ c
Places v c (Some s) = IsPlace v c s

read_answers : (v : Shown) (c : ℕ) (o : Option SnapNo) → Answers (has_cut v c) 0 (count v) o → Places v c o
read_answers v c None none = λ k there same. false≢true (sym (none k (omega arith) (omega arith)) ∙ eq-eqb (cut_of v k) c same)
read_answers v c (Some s) first =
    let below : s.0 < 0 + count v = first.below in
    record {
      there = omega arith;
      is = eqb-true (cut_of v s) c first.passes;
      before = λ k lt same. false≢true (sym (first.before k (omega arith) lt) ∙ eq-eqb (cut_of v k) c same);
    }

pub places : (v : Shown) (c : ℕ) → Places v c (place_of v c)
unfolding place_in
places v c = read_answers v c (first_from (has_cut v c) 0 (count v)) (first_from_answers (has_cut v c) 0 (count v))

-- a snapshot has the place of its cut
pub place_of_cut : (v : Shown) (s : SnapNo) → IsCatalog (catalog v) → IsOpen v s → place_of v (cut_of v s) ≡ Some s
place_of_cut v s is there = place_is v (cut_of v s) s there refl (λ k lt same. let less : cut_of v k < cut_of v s = is.ordered k s lt there in absurd (omega (arith, less, same)))

pub place_some : (v : Shown) (c : ℕ) (s : SnapNo) → place_of v c ≡ Some s → IsPlace v c s
place_some v c s e = subst (Places v c) e (places v c)

pub place_lacks : (v : Shown) (c : ℕ) → place_of v c ≡ None → (s : SnapNo) → IsOpen v s → cut_of v s ≢ c
place_lacks v c e = subst (Places v c) e (places v c)

-- by cases on whether there is one
pub by_place : {P : Type 0} (v : Shown) (c : ℕ) → ((s : SnapNo) → place_of v c ≡ Some s → P) → (place_of v c ≡ None → P) → P
by_place {P} v c some none = by_option (place_of v c) refl
  where
    by_option : (o : Option SnapNo) → place_of v c ≡ o → P
    by_option None e = none e
    by_option (Some s) e = some s e

-- the same cuts at the same places
pub same_places : (old new : Shown) → count new ≡ count old → ((k : SnapNo) → cut_of new k ≡ cut_of old k) → place_of new ≡ place_of old
unfolding place_in
same_places old new counts cuts = λ i c. first_from (λ (s : SnapNo). cuts s i == c) 0 (counts i)

-- ONE SNAPSHOT'S SPARSE FILES CHANGE

module _ (old new : Shown) (s : SnapNo) (only : ChangesSet s old new) where
  pub places_same : place_of new ≡ place_of old
  places_same = same_places old new (ap (λ (c : Catalog). count (record old { cat = c })) only.cat) (λ k. ap (λ (c : Catalog). (snap_at c k).cut) only.cat)

  pub snap_by_other : (c : ℕ) → c ≢ cut_of old s → snap_by new c ≡ snap_by old c
  snap_by_other c ne =
      let at : snap_by new c ≡ option_map (λ (k : SnapNo). (snap_at (catalog old) k, set_of new k)) (place_of old c) =
      (λ i. option_map (λ (k : SnapNo). (snap_at (only.cat i) k, set_of new k)) (places_same i c)) in
      by_place old c
      (λ k e.
      let apart : k ≢ s = λ same. ne (sym (place_some old c k e).is ∙ ap (cut_of old) same) in
      at ∙ ap (option_map (λ (j : SnapNo). (snap_at (catalog old) j, set_of new j))) e ∙ (λ i. Some (snap_at (catalog old) k, only.others k apart i)) ∙ sym (ap (option_map (λ (j : SnapNo). (snap_at (catalog old) j, set_of old j))) e))
      (λ e. at ∙ ap (option_map (λ (j : SnapNo). (snap_at (catalog old) j, set_of new j))) e ∙ sym (ap (option_map (λ (j : SnapNo). (snap_at (catalog old) j, set_of old j))) e))

  pub snap_by_here : IsCatalog (catalog old) → IsOpen old s → snap_by new (cut_of old s) ≡ Some (snap_at (catalog old) s, set_of new s)
  snap_by_here is there =
      (λ i. option_map (λ (k : SnapNo). (snap_at (only.cat i) k, set_of new k)) (places_same i (cut_of old s)))
      ∙ ap (option_map (λ (j : SnapNo). (snap_at (catalog old) j, set_of new j))) (place_of_cut old s is there)
