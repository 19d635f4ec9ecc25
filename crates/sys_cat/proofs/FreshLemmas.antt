-- A name that none of some names is: it differs from name i at byte i.
use Rattle.std.proofs.Common.{◌≡◌, ◌≢◌, ℕ, zero, suc, ◌+◌, ◌<◌, Bool, true, false, cond, ◌==◌, List, [], ◌∷◌, length, map, get_or, refl, ap, sym, ◌∙◌, arith, inl, inr, ◌⊎◌, eq-eqb, eqb-true}
use Rattle.std.specs.Str.{bytes_eq}
use Rattle.std.specs.Char.{to_ascii_lowercase, is_ascii_digit}
use Rattle.std.proofs.lemmas.Slice.Eq.{bytes_eq-Decides}
use Rattle.page_base.specs.Name.{IsLowName, is_name_byte}

abbrev other_byte : ℕ → ℕ
other_byte b = cond (b == 97) 98 97

other_ne : (b : ℕ) → other_byte b ≢ b
other_ne b e = by (b == 97) refl e
  where
    by : (t : Bool) → (b == 97) ≡ t → cond t 98 97 ≡ b → ⊥
    by true h f = let g : b ≡ 97 = eqb-true b 97 h in absurd (omega arith)
    by false h f = let g : true ≡ false = sym (eq-eqb b 97 (sym f)) ∙ h in cc

-- each byte differs from that of the name of its place, counted from i
abbrev apart : ℕ → List (List ℕ) → List ℕ
apart i [] = 97 ∷ []
apart i (x ∷ xs) = other_byte (get_or x i 0) ∷ apart (i + 1) xs

pub fresh : List (List ℕ) → List ℕ
fresh names = apart 0 names

length-apart : (i : ℕ) (xs : List (List ℕ)) → length (apart i xs) ≡ suc (length xs)
length-apart i [] = refl
length-apart i (x ∷ xs) = ap suc (length-apart (i + 1) xs)

abbrev IsAB : ℕ → Type 0
IsAB b = (b ≡ 97) ⊎ (b ≡ 98)

other_ab : (b : ℕ) → IsAB (other_byte b)
other_ab b = by (b == 97)
  where
    by : (t : Bool) → IsAB (cond t 98 97)
    by true = inr refl
    by false = inl refl

ab_at : (i : ℕ) (xs : List (List ℕ)) (k : ℕ) (d : ℕ) → k < length (apart i xs) → IsAB (get_or (apart i xs) k d)
ab_at i [] zero d h = inl refl
ab_at i [] (suc k) d h = absurd (omega arith)
ab_at i (x ∷ xs) zero d h = other_ab (get_or x i 0)
ab_at i (x ∷ xs) (suc k) d h = ab_at (i + 1) xs k d (omega arith)

name_byte : (b : ℕ) → IsAB b → is_name_byte b ≡ true
name_byte b (inl e) = ap is_name_byte e
name_byte b (inr e) = ap is_name_byte e

no_digit : (b : ℕ) → IsAB b → is_ascii_digit b ≡ false
no_digit b (inl e) = ap is_ascii_digit e
no_digit b (inr e) = ap is_ascii_digit e

low_ab : (b : ℕ) → IsAB b → to_ascii_lowercase b ≡ b
low_ab b (inl e) = ap to_ascii_lowercase e ∙ sym e
low_ab b (inr e) = ap to_ascii_lowercase e ∙ sym e

low_all : (xs : List ℕ) → ((k d : ℕ) → k < length xs → IsAB (get_or xs k d)) → map to_ascii_lowercase xs ≡ xs
low_all [] h = refl
low_all (x ∷ xs) h = λ i. low_ab x (h 0 0 (omega arith)) i ∷ low_all xs (λ k d lt. h (suc k) d (omega arith)) i

pub fresh_name : (names : List (List ℕ)) → length names < 128 → IsLowName (fresh names)
unfolding fresh
fresh_name names few = record {
  name = record {
    some = omega (arith, length-apart 0 names);
    short = omega (arith, length-apart 0 names);
    starts = no_digit (get_or (apart 0 names) 0 0) (ab_at 0 names 0 0 (omega (arith, length-apart 0 names)));
    each = λ k d lt. name_byte (get_or (apart 0 names) k d) (ab_at 0 names k d lt);
  };
  low = low_all (apart 0 names) (λ k d lt. ab_at 0 names k d lt);
}

differs : (i : ℕ) (xs : List (List ℕ)) (j : ℕ) → j < length xs → get_or (apart i xs) j 0 ≢ get_or (get_or xs j []) (i + j) 0
differs i [] j h e = absurd (omega arith)
differs i (x ∷ xs) zero h e = let z : i + 0 ≡ i = omega arith in other_ne (get_or x i 0) (e ∙ ap (λ n. get_or x n 0) z)
differs i (x ∷ xs) (suc j) h e = let z : i + suc j ≡ i + 1 + j = omega arith in differs (i + 1) xs j (omega arith) (e ∙ ap (λ n. get_or (get_or xs j []) n 0) z)

not_eq : (x y : List ℕ) → x ≢ y → bytes_eq x y ≡ false
not_eq x y ne = by (bytes_eq x y) refl
  where
    by : (b : Bool) → bytes_eq x y ≡ b → b ≡ false
    by true e = absurd (ne ((bytes_eq-Decides x y).0 e))
    by false e = refl

pub none_fresh : (names : List (List ℕ)) (j : ℕ) → j < length names → bytes_eq (get_or names j []) (fresh names) ≡ false
unfolding fresh
none_fresh names j lt = not_eq (get_or names j []) (apart 0 names) (λ e. differs 0 names j lt (ap (λ (x : List ℕ). get_or x j 0) (sym e) ∙ (let z : j ≡ 0 + j = omega arith in ap (λ n. get_or (get_or names j []) n 0) z)))
