-- Things laid in parts: the parts are the things, each has room, and there are few.
use Rattle.std.proofs.Common.{◌≡◌, ◌≤◌, ◌<◌, ℕ, suc, ◌+◌, ◌-◌, Bool, true, false, cond, List, [], ◌∷◌, length, refl, ap, ◌∙◌, arith}
use Rattle.std.specs.Prelude.{nat_le}
use Rattle.std.proofs.lemmas.Bool.{leb-true, leb-false}
use Rattle.tree_laws.specs.Parts.{fill, onto, joined, total, AreSmall, Fit}

joined-onto : {X : Type 0} (x : X) (ps : List (List X)) → joined (onto x ps) ≡ x ∷ joined ps
joined-onto x [] = refl
joined-onto x (p ∷ ps) = refl

pub joined-fill : {X : Type 0} (size : X → ℕ) (all left : ℕ) (xs : List X) → joined (fill size all left xs) ≡ xs
joined-fill size all left [] = refl
joined-fill size all left (x ∷ xs) = by (nat_le (size x) left) (λ l. joined-fill size all l xs)
  where
    by : (b : Bool) → ((l : ℕ) → joined (fill size all l xs) ≡ xs) → joined (cond b (onto x (fill size all (left - size x) xs)) ([] ∷ onto x (fill size all (all - size x) xs))) ≡ x ∷ xs
    by true rec = joined-onto x (fill size all (left - size x) xs) ∙ ap (λ l. x ∷ l) (rec (left - size x))
    by false rec = joined-onto x (fill size all (all - size x) xs) ∙ ap (λ l. x ∷ l) (rec (all - size x))

-- the first part has this room, the others that
abbrev pub FitFirst : {X : Type 0} → (X → ℕ) → ℕ → ℕ → List (List X) → Type 0
FitFirst size all left [] = ⊥
FitFirst size all left (p ∷ ps) = (total size p ≤ left) × Fit size all ps

fit-onto : {X : Type 0} (size : X → ℕ) (all left : ℕ) (x : X) (ps : List (List X)) → size x ≤ left → FitFirst size all (left - size x) ps → FitFirst size all left (onto x ps)
fit-onto size all left x [] h f = absurd f
fit-onto size all left x (p ∷ ps) h f = (omega (arith, f.0, h), f.1)

pub fit-whole : {X : Type 0} (size : X → ℕ) (all : ℕ) (ps : List (List X)) → FitFirst size all all ps → Fit size all ps
fit-whole size all [] f = absurd f
fit-whole size all (p ∷ ps) f = f

pub fit-fill : {X : Type 0} (size : X → ℕ) (all left : ℕ) (xs : List X) → AreSmall size all xs → FitFirst size all left (fill size all left xs)
fit-fill size all left [] s = (omega arith, tt)
fit-fill size all left (x ∷ xs) s = by (nat_le (size x) left) refl (λ l. fit-fill size all l xs s.1)
  where
    by : (b : Bool) → nat_le (size x) left ≡ b → ((l : ℕ) → FitFirst size all l (fill size all l xs)) → FitFirst size all left (cond b (onto x (fill size all (left - size x) xs)) ([] ∷ onto x (fill size all (all - size x) xs)))
    by true e rec = let le : size x ≤ left = leb-true (size x) left e in fit-onto size all left x (fill size all (left - size x) xs) le (rec (left - size x))
    by false e rec = (omega arith, fit-whole size all (onto x (fill size all (all - size x) xs)) (fit-onto size all all x (fill size all (all - size x) xs) s.0 (rec (all - size x))))

onto-length : {X : Type 0} (x : X) (ps : List (List X)) (n : ℕ) → length ps ≤ suc n → length (onto x ps) ≤ suc n
onto-length x [] n h = omega arith
onto-length x (p ∷ ps) n h = h

-- what has room is one part
pub fill-one : {X : Type 0} (size : X → ℕ) (all left : ℕ) (xs : List X) → total size xs ≤ left → length (fill size all left xs) ≤ 1
fill-one size all left [] h = omega arith
fill-one size all left (x ∷ xs) h = by (nat_le (size x) left) refl (λ l. fill-one size all l xs)
  where
    by : (b : Bool) → nat_le (size x) left ≡ b → ((l : ℕ) → total size xs ≤ l → length (fill size all l xs) ≤ 1) → length (cond b (onto x (fill size all (left - size x) xs)) ([] ∷ onto x (fill size all (all - size x) xs))) ≤ 1
    by true e rec = let le : size x ≤ left = leb-true (size x) left e in onto-length x (fill size all (left - size x) xs) 0 (rec (left - size x) (omega (arith, h)))
    by false e rec = let gt : left < size x = leb-false (size x) left e in absurd (omega (arith, h, gt))

-- what has room on one page is two parts at most, wherever the first begins
pub fill-two : {X : Type 0} (size : X → ℕ) (all left : ℕ) (xs : List X) → total size xs ≤ all → length (fill size all left xs) ≤ 2
fill-two size all left [] h = omega arith
fill-two size all left (x ∷ xs) h = by (nat_le (size x) left) (λ l. fill-two size all l xs)
  where
    by : (b : Bool) → ((l : ℕ) → total size xs ≤ all → length (fill size all l xs) ≤ 2) → length (cond b (onto x (fill size all (left - size x) xs)) ([] ∷ onto x (fill size all (all - size x) xs))) ≤ 2
    by true rec = onto-length x (fill size all (left - size x) xs) 1 (rec (left - size x) (omega (arith, h)))
    by false rec = let one = onto-length x (fill size all (all - size x) xs) 0 (fill-one size all (all - size x) xs (omega (arith, h))) in omega (arith, one)

pub fill-three : {X : Type 0} (size : X → ℕ) (all left : ℕ) (xs : List X) → total size xs ≤ left + all + 1 → length (fill size all left xs) ≤ 3
fill-three size all left [] h = omega arith
fill-three size all left (x ∷ xs) h = by (nat_le (size x) left) refl (λ l. fill-three size all l xs)
  where
    by : (b : Bool) → nat_le (size x) left ≡ b → ((l : ℕ) → total size xs ≤ l + all + 1 → length (fill size all l xs) ≤ 3) → length (cond b (onto x (fill size all (left - size x) xs)) ([] ∷ onto x (fill size all (all - size x) xs))) ≤ 3
    by true e rec = let le : size x ≤ left = leb-true (size x) left e in onto-length x (fill size all (left - size x) xs) 2 (rec (left - size x) (omega (arith, h, le)))
    by false e rec =
        let gt : left < size x = leb-false (size x) left e in
        let two = onto-length x (fill size all (all - size x) xs) 1 (fill-two size all (all - size x) xs (omega (arith, h, gt))) in
        omega (arith, two)

-- small things that have room on nearly two pages are two parts
pub fill-small : {X : Type 0} (size : X → ℕ) (all most left : ℕ) (xs : List X) → most ≤ all → AreSmall size most xs → total size xs + most ≤ left + all + 1 → length (fill size all left xs) ≤ 2
fill-small size all most left [] m s h = omega arith
fill-small size all most left (x ∷ xs) m s h = by (nat_le (size x) left) refl (λ l. fill-small size all most l xs m s.1)
  where
    by : (b : Bool) → nat_le (size x) left ≡ b → ((l : ℕ) → total size xs + most ≤ l + all + 1 → length (fill size all l xs) ≤ 2) → length (cond b (onto x (fill size all (left - size x) xs)) ([] ∷ onto x (fill size all (all - size x) xs))) ≤ 2
    by true e rec = let le : size x ≤ left = leb-true (size x) left e in onto-length x (fill size all (left - size x) xs) 1 (rec (left - size x) (omega (arith, h, le)))
    by false e rec =
        let gt : left < size x = leb-false (size x) left e in
        let small : size x ≤ most = s.0 in
        let one = onto-length x (fill size all (all - size x) xs) 0 (fill-one size all (all - size x) xs (omega (arith, h, gt, small, m))) in
        omega (arith, one)
