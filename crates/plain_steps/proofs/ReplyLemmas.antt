-- Snapshots that are gone, names that are off the volume, and a session that is put in its place.
use Rattle.std.proofs.Common.{◌≡◌, ℕ, ◌-◌, Bool, true, false, ◌&&◌, ◌||◌, not, nat_le, cond, IsTrue, List, [], ◌∷◌, ◌++◌, filter, length, length-set, refl, ap, sym, ◌∙◌, inl, inr, arith}
use Rattle.std.specs.Prelude.{None, is_some, find}
use Rattle.std.specs.List.{list_any}
use Rattle.std.specs.Str.{bytes_eq}
use Rattle.std.specs.Ordering.{nat_cmp}
use Rattle.std.specs.Cmp.Lexicographic.{nat_list_cmp_total, slice_cmp}
use Rattle.std.specs.FinMap as finite
use Rattle.std.specs.FinMap.{get-remove}
use Rattle.std.proofs.lemmas.Bool.{cases_Bool, leb-true}
use Rattle.std.proofs.lemmas.List.{get_or-set_same}
use Rattle.std.proofs.lemmas.List.Folds.{list_any-append}
use Rattle.std.proofs.lemmas.Map.Text.{is_eq-slice_cmp}
use Rattle.plain_model.specs.Tables.{Tables}
use Rattle.plain_model.specs.Legal.{with_session, without_names}
use Rattle.plain_model.specs.State.{Plain, Session, Snap, session, is_session, fresh_session}
use Rattle.plain_steps.proofs.LockLemmas.{same_bytes}

-- of the snapshots without those of a name none has it
pub none_left : (d : List ℕ) (ss : List Snap) → is_some (find (λ (s : Snap). bytes_eq s.name d) (filter (λ s. not (bytes_eq s.name d)) ss)) ≡ false
none_left d [] = refl
none_left d (s ∷ ss) = elim (cases_Bool (bytes_eq s.name d)) [
  | inl t ↦ rw t (none_left d ss)
  | inr f ↦ rw (f, f) (none_left d ss)
]

-- a list without names has none of them
pub none_named : (name : List ℕ) (names xs : List (List ℕ)) → list_any (bytes_eq name) names ≡ true → list_any (bytes_eq name) (without_names names xs) ≡ false
none_named name names [] h = refl
none_named name names (x ∷ xs) h = elim (cases_Bool (list_any (bytes_eq x) names)) [
  | inl t ↦ rw t (none_named name names xs h)
  | inr f ↦ elim (cases_Bool (bytes_eq name x)) [
    | inl same ↦ absurd (let y : false ≡ true = sym f ∙ ap (λ (n : List ℕ). list_any (bytes_eq n) names) (sym (same_bytes name x same)) ∙ h in cc)
    | inr other ↦ rw (f, other) (none_named name names xs h)
  ]
]

-- names that are put in front of others are among them
pub among : (name : List ℕ) (names others : List (List ℕ)) → list_any (bytes_eq name) names ≡ true → list_any (bytes_eq name) (names ++ others) ≡ true
among name names others h = list_any-append (bytes_eq name) names others ∙ ap (λ b. b || list_any (bytes_eq name) others) h

both : (a b : Bool) → (a && b) ≡ true → (a ≡ true) × (b ≡ true)
both true b e = (refl, e)
both false b e = cc

-- a session that is put in its place is there
pub put_there : (st : Plain) (k : ℕ) (s : Session) → IsTrue (is_session st k) → session (with_session st k s) k ≡ s
put_there st k s there =
    let h = both (nat_le 1 k) (nat_le k (length st.sessions)) there in
    let low = leb-true 1 k h.0 in
    let high = leb-true k (length st.sessions) h.1 in
    get_or-set_same st.sessions (k - 1) s fresh_session (omega (arith, low, high))

-- and is a session still
pub still_there : (st : Plain) (k : ℕ) (s : Session) → IsTrue (is_session st k) → IsTrue (is_session (with_session st k s) k)
still_there st k s there = simp length-set there

-- a map without a name has the others
pub others_stay : (copies : finite.FinMap (slice_cmp nat_cmp) Tables) (d other : List ℕ) → bytes_eq other d ≡ false → finite.get (finite.remove copies d) other ≡ finite.get copies other
others_stay copies d other apart = get-remove nat_list_cmp_total copies d other ∙ ap (λ b. cond b None (finite.get copies other)) (is_eq-slice_cmp other d ∙ apart)
