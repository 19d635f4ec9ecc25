-- What the slots hold after one of them was set.
use Rattle.std.proofs.Common.{◌≡◌, ◌≢◌, ℕ, inl, inr, Bool, true, false, cond, ◌==◌, ◌&&◌, List, refl, ap, sym, ◌∙◌, eq-eqb, eqb-true}
use Rattle.std.proofs.lemmas.Bool.{cases_eq, ne_eqb, and_parts}
use Rattle.page_base.specs.declared.numbers.PageId.{PageId}
use Rattle.page_base.specs.Pages.{is_page}
use Rattle.page_base.specs.Slots.{Slots, with_slot}
use Rattle.page_base.proofs.PagesLemmas.{cases_page, is_page-same, is_page-other, is_page-true}

shadow : {X : Type 0} (b : Bool) (x y z : X) → cond b x (cond b y z) ≡ cond b x z
shadow true x y z = refl
shadow false x y z = refl

swap : {X : Type 0} (a b : Bool) (x y z : X) → (a ≡ true → b ≡ true → ⊥) → cond a x (cond b y z) ≡ cond b y (cond a x z)
swap true true x y z apart = absurd (apart refl refl)
swap true false x y z apart = refl
swap false b x y z apart = refl

and_false : (a b : Bool) → b ≡ false → (a && b) ≡ false
and_false true b e = e
and_false false b e = refl

-- the slot that was set
pub with_slot-same : (s : Slots) (p : PageId) (i : ℕ) (x : List ℕ) → with_slot s p i x p i ≡ x
with_slot-same s p i x = ap (λ b. cond (b && i == i) x (s p i)) (is_page-same p) ∙ ap (λ b. cond b x (s p i)) (eq-eqb i i refl)

-- another slot, of the same page or not
pub with_slot-slot : (s : Slots) (p q : PageId) (i j : ℕ) (x : List ℕ) → j ≢ i → with_slot s p i x q j ≡ s q j
with_slot-slot s p q i j x ne = ap (λ b. cond b x (s q j)) (and_false (is_page p q) (i == j) (ne_eqb i j (λ e. ne (sym e))))

-- another page
pub with_slot-page : (s : Slots) (p q : PageId) (i : ℕ) (x : List ℕ) → q ≢ p → with_slot s p i x q ≡ s q
with_slot-page s p q i x ne = λ t j. ap (λ b. cond (b && i == j) x (s q j)) (is_page-other p q ne) t

-- a slot set twice
pub with_slot-twice : (s : Slots) (p : PageId) (i : ℕ) (x y : List ℕ) → with_slot (with_slot s p i y) p i x ≡ with_slot s p i x
with_slot-twice s p i x y = λ t q j. shadow (is_page p q && i == j) x y (s q j) t

-- a slot set to what it holds
pub with_slot-itself : (s : Slots) (p : PageId) (i : ℕ) → with_slot s p i (s p i) ≡ s
with_slot-itself s p i = λ t q j. (elim (cases_page q p) as (λ c. with_slot s p i (s p i) q j ≡ s q j) [
  | inl e ↦ elim (cases_eq j i) [
    | inl f ↦ (λ u. with_slot s p i (s p i) (e u) (f u)) ∙ with_slot-same s p i (s p i) ∙ sym (λ u. s (e u) (f u))
    | inr ne ↦ with_slot-slot s p q i j (s p i) ne
  ]
  | inr ne ↦ λ u. with_slot-page s p q i (s p i) ne u j
]) t

-- two slots that aren't the same
abbrev pub Differ : PageId → ℕ → PageId → ℕ → Type 0
Differ p i q j = p ≡ q → i ≡ j → ⊥

-- two slots set in either order
pub with_slot-swap : (s : Slots) (p q : PageId) (i j : ℕ) (x y : List ℕ) → Differ p i q j → with_slot (with_slot s q j y) p i x ≡ with_slot (with_slot s p i x) q j y
with_slot-swap s p q i j x y differ = λ t r k.
    swap (is_page p r && i == k) (is_page q r && j == k) x y (s r k)
    (λ a b. let f = and_parts (is_page p r) (i == k) a in let g = and_parts (is_page q r) (j == k) b in differ (is_page-true p r f.0 ∙ sym (is_page-true q r g.0)) (eqb-true i k f.1 ∙ sym (eqb-true j k g.1))) t

-- a slot that isn't the one that was set
pub with_slot-other : (s : Slots) (p q : PageId) (i j : ℕ) (x : List ℕ) → Differ q j p i → with_slot s p i x q j ≡ s q j
with_slot-other s p q i j x differ = elim (cases_page q p) [
  | inl e ↦ with_slot-slot s p q i j x (λ same. differ e same)
  | inr ne ↦ λ u. with_slot-page s p q i x ne u j
]
