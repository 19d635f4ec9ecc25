-- How many tables have a number from some number on.
use Rattle.std.proofs.Common.{◌≡◌, ℕ, suc, ◌+◌, ◌<◌, ◌≤◌, Bool, true, false, cond, ◌==◌, ◌||◌, List, [], ◌∷◌, refl, ap, ◌∙◌, arith, inl, inr, eqb-true}
use Rattle.std.specs.Prelude.{nat_le, All}
use Rattle.std.proofs.lemmas.Bool.{cases_eq}
use Rattle.std.proofs.lemmas.Bool.Decides.{nat_tests}
use Rattle.sys_cat.specs.declared.desc.TableDesc.{TableDesc}
use Rattle.sys_cat.specs.Lists.{has_number}

-- how many have this number or a greater one
abbrev pub from : List TableDesc → ℕ → ℕ
from [] n = 0
from (d ∷ ds) n = cond (nat_le n d.number.0) 1 0 + from ds n

fewer : (k n : ℕ) → cond {A = ℕ} (nat_le (n + 1) k) 1 0 ≤ cond (nat_le n k) 1 0
fewer k n = grind (arith, nat_tests)

from_fewer : (ds : List TableDesc) (n : ℕ) → from ds (n + 1) ≤ from ds n
from_fewer [] n = omega arith
from_fewer (d ∷ ds) n = let a = fewer d.number.0 n in let b = from_fewer ds n in omega arith

one_fewer : (k n : ℕ) → (k == n) ≡ true → cond {A = ℕ} (nat_le (n + 1) k) 1 0 < cond (nat_le n k) 1 0
one_fewer k n e = let f : k ≡ n = eqb-true k n e in grind (arith, nat_tests)

pub from_less : (ds : List TableDesc) (n : ℕ) → has_number ds n ≡ true → from ds (n + 1) < from ds n
from_less [] n h = absurd (let wrong : false ≡ true = h in cc)
from_less (d ∷ ds) n h = by (d.number.0 == n) refl h (λ g. from_less ds n g)
  where
    by : (b : Bool) → (d.number.0 == n) ≡ b → (b || has_number ds n) ≡ true → (has_number ds n ≡ true → from ds (n + 1) < from ds n) → from (d ∷ ds) (n + 1) < from (d ∷ ds) n
    by true e h later = let a = one_fewer d.number.0 n e in let b = from_fewer ds n in omega arith
    by false e h later = let a = fewer d.number.0 n in let b = later h in omega arith

-- a number that a table has is small, where all are
pub small_number : (ds : List TableDesc) (n limit : ℕ) → has_number ds n ≡ true → All (λ d. d.number.0 < limit) ds → n < limit
small_number [] n limit h a = absurd (let wrong : false ≡ true = h in cc)
small_number (d ∷ ds) n limit h a = by (d.number.0 == n) refl h (λ g. small_number ds n limit g (λ k e lt. a (suc k) e (omega arith)))
  where
    by : (b : Bool) → (d.number.0 == n) ≡ b → (b || has_number ds n) ≡ true → (has_number ds n ≡ true → n < limit) → n < limit
    by true e h later = let f : d.number.0 ≡ n = eqb-true d.number.0 n e in let g : d.number.0 < limit = a 0 d (omega arith) in omega arith
    by false e h later = later h

pub numbers_more : (ds : List TableDesc) (m : ℕ) → ((n : ℕ) → 1 ≤ n → n < m → has_number ds n ≡ true) → has_number ds m ≡ true → (n : ℕ) → 1 ≤ n → n < m + 1 → has_number ds n ≡ true
numbers_more ds m h here n l lt = elim (cases_eq n m) [
  | inl e ↦ ap (has_number ds) e ∙ here
  | inr ne ↦ h n l (omega arith)
]
