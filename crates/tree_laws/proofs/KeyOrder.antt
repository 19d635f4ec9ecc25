-- The order of keys: below, not above, and how they join.
use Rattle.std.proofs.Common.{◌≡◌, ◌≢◌, Bool, true, false, refl, ap, sym, ◌∙◌, subst, ◌⊎◌, inl, inr}
use Rattle.std.specs.Ordering.{is_le, is_lt, is_eq, ordering_reverse}
use Rattle.std.specs.declared.cmp.Ordering.{Ordering}
use Rattle.std.specs.declared.cmp.Ordering.TheVariants.{Less, Equal, Greater}
use Rattle.page_base.specs.Order.{key_cmp}
use Rattle.page_base.proofs.Ordered.{key_cmp_total}
use Rattle.table_walk.proofs.OrderLemmas.{keys_exact}
use Rattle.table_walk.proofs.RowsLemmas.{same_key, itself, ties}
use Rattle.tree_laws.specs.Keys.{Key}

abbrev pub Below : Key → Key → Type 0
Below a b = is_lt (key_cmp a b) ≡ true

abbrev pub Upto : Key → Key → Type 0
Upto a b = is_le (key_cmp a b) ≡ true

less : (r : Ordering) → is_lt r ≡ true → r ≡ Less
less Less e = refl
less Equal e = cc
less Greater e = cc

pub upto_cases : (a b : Key) → Upto a b → Below a b ⊎ (a ≡ b)
upto_cases a b u = by (key_cmp a b) refl u
  where
    by : (r : Ordering) → key_cmp a b ≡ r → is_le r ≡ true → Below a b ⊎ (a ≡ b)
    by Less e h = inl (ap is_lt e)
    by Equal e h = inr (keys_exact a b e)
    by Greater e h = absurd (let wrong : false ≡ true = h in cc)

pub below_trans : (a b c : Key) → Below a b → Below b c → Below a c
below_trans a b c p q = ap is_lt (key_cmp_total.trans a b c (less (key_cmp a b) p) (less (key_cmp b c) q))

pub below_upto : (a b c : Key) → Below a b → Upto b c → Below a c
below_upto a b c p q = elim (upto_cases b c q) [
  | inl h ↦ below_trans a b c p h
  | inr e ↦ subst (λ (z : Key). Below a z) e p
]

pub upto_below : (a b c : Key) → Upto a b → Below b c → Below a c
upto_below a b c p q = elim (upto_cases a b p) [
  | inl h ↦ below_trans a b c h q
  | inr e ↦ subst (λ (z : Key). Below z c) (sym e) q
]

pub upto_of : (a b : Key) → Below a b → Upto a b
upto_of a b p = ap is_le (less (key_cmp a b) p)

pub upto_self : (a : Key) → Upto a a
upto_self a = by (key_cmp a a) (itself a)
  where
    by : (r : Ordering) → is_eq r ≡ true → is_le r ≡ true
    by Less e = refl
    by Equal e = refl
    by Greater e = cc

pub never_below : (a : Key) → ¬ Below a a
never_below a p = by (key_cmp a a) (itself a) p
  where
    by : (r : Ordering) → is_eq r ≡ true → is_lt r ≡ true → ⊥
    by Less e h = let wrong : false ≡ true = e in cc
    by Equal e h = let wrong : false ≡ true = h in cc
    by Greater e h = let wrong : false ≡ true = h in cc

pub below_not : (a b : Key) → Below a b → a ≢ b
below_not a b p e = never_below b (subst (λ (z : Key). Below z b) e p)

pub below_not_same : (a b : Key) → Below a b → b ≢ a
below_not_same a b p e = below_not a b p (sym e)

-- a key that isn't up to another is above it
pub above_of : (a b : Key) → is_le (key_cmp a b) ≡ false → Below b a
above_of a b e = by (key_cmp a b) refl e
  where
    by : (r : Ordering) → key_cmp a b ≡ r → is_le r ≡ false → Below b a
    by Less is h = absurd (let wrong : true ≡ false = h in cc)
    by Equal is h = absurd (let wrong : true ≡ false = h in cc)
    by Greater is h = ap is_lt (key_cmp_total.antisymm b a ∙ ap ordering_reverse is)

-- keys that differ don't tie
pub apart : (a b : Key) → a ≢ b → same_key a b ≡ false
apart a b ne = by (same_key a b) refl
  where
    by : (r : Bool) → same_key a b ≡ r → r ≡ false
    by true e = absurd (ne (ties a b e))
    by false e = refl
