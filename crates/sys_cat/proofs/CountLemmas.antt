-- How many columns have which places in the key.
use Rattle.std.proofs.Common.{length-append, ◌≡◌, ℕ, zero, suc, ◌+◌, ◌<◌, ◌≤◌, max, Bool, true, false, cond, ◌==◌, ◌&&◌, List, [], ◌∷◌, ◌++◌, length, filter, refl, ap, sym, ◌∙◌, arith, inl, inr, nat_lt}
use Rattle.std.specs.Prelude.{nat_le}
use Rattle.std.specs.List.{list_all, range_with_len}
use Rattle.std.proofs.lemmas.Bool.{cases_eq, and_parts}
use Rattle.std.proofs.lemmas.Bool.Decides.{nat_tests}
use Rattle.std.proofs.lemmas.List.Elements.{filter-append}
use Rattle.page_base.specs.declared.column.Column.{Column}
use Rattle.sys_cat.specs.Growing.{count_at, key_size, top, are_once}

-- how many have a place behind the first n
abbrev pub above : ℕ → List Column → ℕ
above n cols = length (filter (λ c. nat_lt n c.key) cols)

-- how many have one of the first n places
abbrev pub total : List Column → ℕ → ℕ
total cols zero = 0
total cols (suc n) = total cols n + count_at cols (suc n)

one_more : (p : Column → Bool) (c : Column) (cs : List Column) → length (filter p (c ∷ cs)) ≡ cond (p c) 1 0 + length (filter p cs)
one_more p c cs = by (p c)
  where
    by : (b : Bool) → length (cond b (c ∷ filter p cs) (filter p cs)) ≡ cond b 1 0 + length (filter p cs)
    by true = omega arith
    by false = omega arith

at_or_behind : (n k : ℕ) → cond {A = ℕ} (nat_lt n k) 1 0 ≡ cond (k == suc n) 1 0 + cond (nat_lt (suc n) k) 1 0
at_or_behind n k = grind (arith, nat_tests)

-- those behind n have the next place, or one behind it
pub above_next : (n : ℕ) (cols : List Column) → above n cols ≡ count_at cols (suc n) + above (suc n) cols
above_next n [] = refl
above_next n (c ∷ cs) =
    let a = one_more (λ c. nat_lt n c.key) c cs in
    let b = one_more (λ c. c.key == suc n) c cs in
    let d = one_more (λ c. nat_lt (suc n) c.key) c cs in
    let e = at_or_behind n c.key in
    let h = above_next n cs in
    omega arith

some_place : (k : ℕ) → nat_le 1 k ≡ nat_lt 0 k
some_place zero = refl
some_place (suc k) = refl

-- a key column has one of the first n places, or one behind them
pub size_is : (n : ℕ) (cols : List Column) → key_size cols ≡ total cols n + above n cols
size_is zero cols = none cols
  where
    none : (cs : List Column) → key_size cs ≡ 0 + above 0 cs
    none [] = refl
    none (c ∷ cs) =
        let a = one_more (λ c. nat_le 1 c.key) c cs in
        let b = one_more (λ c. nat_lt 0 c.key) c cs in
        let e = ap (λ (t : Bool). cond {A = ℕ} t 1 0) (some_place c.key) in
        let h = none cs in
        omega arith
size_is (suc n) cols = let h = size_is n cols in let e = above_next n cols in omega arith

-- none is behind the last place
pub none_behind : (n : ℕ) (cols : List Column) → top cols ≤ n → above n cols ≡ 0
none_behind n [] h = refl
none_behind n (c ∷ cs) h =
    let a = one_more (λ c. nat_lt n c.key) c cs in
    let e : cond {A = ℕ} (nat_lt n c.key) 1 0 ≡ 0 = small n c.key (omega arith) in
    let r = none_behind n cs (omega arith) in
    omega arith
  where
    small : (n k : ℕ) → k ≤ n → cond {A = ℕ} (nat_lt n k) 1 0 ≡ 0
    small n k h = grind (arith, nat_tests)

pub top_within : (n : ℕ) (cols : List Column) → above n cols ≡ 0 → top cols ≤ n
top_within n [] h = omega arith
top_within n (c ∷ cs) h =
    let a = one_more (λ c. nat_lt n c.key) c cs in
    let e : c.key ≤ n = small n c.key (omega arith) in
    let r = top_within n cs (omega arith) in
    omega arith
  where
    small : (n k : ℕ) → cond {A = ℕ} (nat_lt n k) 1 0 ≡ 0 → k ≤ n
    small n k h = grind (arith, nat_tests)

-- EACH PLACE

pub total_ones : (cols : List Column) (n : ℕ) → ((p : ℕ) → 1 ≤ p → p ≤ n → count_at cols p ≡ 1) → total cols n ≡ n
total_ones cols zero h = refl
total_ones cols (suc n) h = let a = total_ones cols n (λ p l m. h p l (omega arith)) in let b = h (suc n) (omega arith) (omega arith) in omega arith

pub total_within : (cols : List Column) (n : ℕ) → ((p : ℕ) → 1 ≤ p → p ≤ n → count_at cols p ≤ 1) → total cols n ≤ n
total_within cols zero h = omega arith
total_within cols (suc n) h = let a = total_within cols n (λ p l m. h p l (omega arith)) in let b = h (suc n) (omega arith) (omega arith) in omega arith

pub ones : (cols : List Column) (n : ℕ) → ((p : ℕ) → 1 ≤ p → p ≤ n → count_at cols p ≤ 1) → total cols n ≡ n → (p : ℕ) → 1 ≤ p → p ≤ n → count_at cols p ≡ 1
ones cols zero h t p l m = absurd (omega arith)
ones cols (suc n) h t p l m =
    let a = total_within cols n (λ p l m. h p l (omega arith)) in
    let b = h (suc n) (omega arith) (omega arith) in
    elim (cases_eq p (suc n)) [
      | inl e ↦ ap (count_at cols) e ∙ (let x : count_at cols (suc n) ≡ 1 = omega arith in x)
      | inr ne ↦ ones cols n (λ p l m. h p l (omega arith)) (omega arith) p l (omega arith)
    ]

-- a place that is missing
pub missing : (cols : List Column) (n : ℕ) → total cols n < n → (p : ℕ) × (1 ≤ p) × (p ≤ n) × (count_at cols p ≡ 0)
missing cols zero t = absurd (omega arith)
missing cols (suc n) t = elim (cases_eq (count_at cols (suc n)) 0) [
  | inl e ↦ (suc n, omega arith, omega arith, e)
  | inr ne ↦ let r = missing cols n (omega arith) in (r.0, r.1, omega (arith, r.2), r.3)
]

-- RANGES

pub in_range : (f : ℕ → Bool) (a n : ℕ) → list_all f (range_with_len a n) ≡ true → (p : ℕ) → a ≤ p → p < a + n → f p ≡ true
in_range f a zero h p l m = absurd (omega arith)
in_range f a (suc n) h p l m =
    let parts = and_parts (f a) (list_all f (range_with_len (a + 1) n)) h in
    elim (cases_eq p a) [
      | inl e ↦ ap f e ∙ parts.0
      | inr ne ↦ in_range f (a + 1) n parts.1 p (omega arith) (omega arith)
    ]

pub of_range : (f : ℕ → Bool) (a n : ℕ) → ((p : ℕ) → a ≤ p → p < a + n → f p ≡ true) → list_all f (range_with_len a n) ≡ true
of_range f a zero h = refl
of_range f a (suc n) h = ap (λ b. b && list_all f (range_with_len (a + 1) n)) (h a (omega arith) (omega arith)) ∙ of_range f (a + 1) n (λ p l m. h p (omega arith) (omega arith))

pub le_is : (a b : ℕ) → nat_le a b ≡ true → a ≤ b
le_is a b h = grind (arith, nat_tests)

pub is_le : (a b : ℕ) → a ≤ b → nat_le a b ≡ true
is_le a b h = grind (arith, nat_tests)

pub once_each : (cols : List Column) (n : ℕ) → are_once cols n ≡ true → (p : ℕ) → 1 ≤ p → p ≤ n → count_at cols p ≤ 1
once_each cols n h p l m = le_is (count_at cols p) 1 (in_range (λ q. nat_le (count_at cols q) 1) 1 n h p l (omega arith))

pub each_once : (cols : List Column) (n : ℕ) → ((p : ℕ) → 1 ≤ p → p ≤ n → count_at cols p ≤ 1) → are_once cols n ≡ true
each_once cols n h = of_range (λ q. nat_le (count_at cols q) 1) 1 n (λ p l m. is_le (count_at cols p) 1 (h p l (omega arith)))

-- one place more of a loop
pub once_more : (cols : List Column) (i : ℕ) → are_once cols i ≡ true → count_at cols (i + 1) ≤ 1 → are_once cols (i + 1) ≡ true
once_more cols i h few = each_once cols (i + 1) (λ p l m. elim (cases_eq p (i + 1)) [
  | inl e ↦ let same = ap (count_at cols) e in omega arith
  | inr ne ↦ once_each cols i h p l (omega arith)
])

pub once_not : (cols : List Column) (n i : ℕ) → i < n → 1 < count_at cols (i + 1) → false ≡ are_once cols n
once_not cols n i lt many = by (are_once cols n) refl
  where
    by : (b : Bool) → are_once cols n ≡ b → false ≡ are_once cols n
    by true e = let few = once_each cols n e (i + 1) (omega arith) (omega arith) in absurd (omega arith)
    by false e = sym e

-- SEVERAL LISTS

pub count-append : (xs ys : List Column) (p : ℕ) → count_at (xs ++ ys) p ≡ count_at xs p + count_at ys p
count-append xs ys p = ap length (filter-append (λ c. c.key == p) xs ys) ∙ length-append (filter (λ c. c.key == p) xs) (filter (λ c. c.key == p) ys)

pub size-append : (xs ys : List Column) → key_size (xs ++ ys) ≡ key_size xs + key_size ys
size-append xs ys = ap length (filter-append (λ c. nat_le 1 c.key) xs ys) ∙ length-append (filter (λ c. nat_le 1 c.key) xs) (filter (λ c. nat_le 1 c.key) ys)

pub top-append : (xs ys : List Column) → top (xs ++ ys) ≡ max (top xs) (top ys)
top-append [] ys = omega arith
top-append (c ∷ cs) ys = let h = top-append cs ys in omega arith

pub few_keys : (cols : List Column) → key_size cols ≤ length cols
few_keys [] = omega arith
few_keys (c ∷ cs) =
    let a = one_more (λ c. nat_le 1 c.key) c cs in
    let h = few_keys cs in
    by (nat_le 1 c.key) a h
  where
    by : (b : Bool) → key_size (c ∷ cs) ≡ cond b 1 0 + key_size cs → key_size cs ≤ length cs → key_size (c ∷ cs) ≤ length (c ∷ cs)
    by true e h = omega arith
    by false e h = omega arith
