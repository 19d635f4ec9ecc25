-- The place of a name in a key.
use Rattle.std.proofs.Common.{inl, inr, ◌≡◌, ℕ, zero, suc, ◌+◌, ◌<◌, true, false, cond, List, [], ◌∷◌, length, get_or, refl, sym, ap, ◌∙◌, arith}
use Rattle.std.specs.Prelude.{◌==◌, nat_le, nat_lt, Some, None, option_map}
use Rattle.std.specs.Option.{unwrap_or}
use Rattle.std.specs.List.{position_or_len}
use Rattle.std.specs.Str.{bytes_eq}
use Rattle.std.proofs.lemmas.Bool.{cases_Bool, false_from_ne_true, both_ways}
use Rattle.std.proofs.lemmas.Bool.Decides.{nat_tests}
use Rattle.std.proofs.lemmas.List.Folds.{list_any_at}
use Rattle.plain_model.specs.Sound.{are_distinct}
use Rattle.table_def.specs.Parts.{is_among}
use Rattle.table_def.specs.Keys.{place_in}
use Rattle.table_def.proofs.Counting.{same_bytes, first_differs, others_differ, bytes_eq-swap}

-- the place one behind, if it is one
abbrev next : ℕ → ℕ
next place = cond (place == 0) 0 (place + 1)

-- the place by the index of the first name that is it
by_index : (m len : ℕ) → unwrap_or (option_map (λ i. i + 1) (cond (nat_lt m len) (Some m) None)) 0 ≡ cond (nat_lt m len) (m + 1) 0
by_index m len = elim (cases_Bool (nat_lt m len)) [ inl within ↦ rw within refl | inr past ↦ rw past refl ]

one_later : (m len : ℕ) → cond (nat_lt (1 + m) (suc len)) (1 + m + 1) 0 ≡ next (cond (nat_lt m len) (m + 1) 0)
one_later m len = grind (arith, nat_tests)

-- by the first name of the key
place_first : (k n : List ℕ) (ks : List (List ℕ)) → bytes_eq n k ≡ true → place_in (k ∷ ks) n ≡ 1
place_first k n ks same = rw same (by_index 0 (suc (length ks)) ∙ grind (arith, nat_tests))

place_later : (k n : List ℕ) (ks : List (List ℕ)) → bytes_eq n k ≡ false → place_in (k ∷ ks) n ≡ next (place_in ks n)
place_later k n ks other =
    let m = position_or_len (bytes_eq n) ks in
    rw other (by_index (1 + m) (suc (length ks)) ∙ one_later m (length ks) ∙ ap next (sym (by_index m (length ks))))

-- a name has a place where it stands in the key
pub has_place_if_among : (key : List (List ℕ)) (n : List ℕ) → nat_le 1 (place_in key n) ≡ is_among key n
has_place_if_among [] n = refl
has_place_if_among (k ∷ ks) n = elim (cases_Bool (bytes_eq n k)) [
  | inl same ↦ rw (place_first k n ks same, same) refl
  | inr other ↦ rw (place_later k n ks other, other) (grind (arith, nat_tests, has_place_if_among ks n))
]

-- what isn't among some is none of them
absent_at : (k : List ℕ) (ks : List (List ℕ)) (i : ℕ) → is_among ks k ≡ false → i < length ks → bytes_eq k (get_or ks i []) ≡ false
absent_at k ks i gone within = false_from_ne_true _ (λ found. both_ways _ gone (list_any_at (bytes_eq k) ks i [] within found))

-- the place of a name is i + 1 where it is the key's name at i
pub place_is : (key : List (List ℕ)) (i : ℕ) (n : List ℕ) → are_distinct key ≡ true → i < length key → (place_in key n == i + 1) ≡ bytes_eq (get_or key i []) n
place_is [] i n d within = absurd (omega (arith, within))
place_is (k ∷ ks) zero n d within = elim (cases_Bool (bytes_eq n k)) [
  | inl same ↦ rw (place_first k n ks same, bytes_eq-swap k n, same) refl
  | inr other ↦ rw (place_later k n ks other, bytes_eq-swap k n, other) (grind (arith, nat_tests))
]
place_is (k ∷ ks) (suc i) n d within = elim (cases_Bool (bytes_eq n k)) [
  | inl same ↦
      let gone : is_among ks k ≡ false = first_differs k ks d in
      let there : bytes_eq k (get_or ks i []) ≡ false = absent_at k ks i gone (omega (arith, within)) in
      let not_there : bytes_eq (get_or ks i []) n ≡ false = bytes_eq-swap (get_or ks i []) n ∙ ap (λ (m : List ℕ). bytes_eq m (get_or ks i [])) (same_bytes n k same) ∙ there in
      rw (place_first k n ks same, not_there) (grind (arith, nat_tests))
  | inr other ↦ rw (place_later k n ks other) (grind (arith, nat_tests, place_is ks i n (others_differ k ks d) (omega (arith, within))))
]
