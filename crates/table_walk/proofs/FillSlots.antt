-- One slot that isn't empty has other bytes, as many: edits of other slots do the same on both pages.
use Rattle.std.proofs.Common.{refl, ◌≡◌, ◌≢◌, ℕ, zero, suc, ◌<◌, List, [], ◌∷◌, length, get_or, set, ap, sym, ◌∙◌, subst, arith}
use Rattle.page_fmt.specs.Edits.{edited, set_slot, trimmed, before, slot_at}
use Rattle.page_fmt.specs.Spelling.{used}
use Rattle.page_fmt.proofs.CallerLemmas.{slot_at-edited_same, slot_at-edited_other}
use Rattle.page_fmt.proofs.SlotLemmas.{length-set_slot, row_bytes-set_slot}

abbrev Slots : Type 0
Slots = List (List ℕ)

empty_none : (s : List ℕ) → 0 < length s → s ≢ []
empty_none s h e = absurd (omega (arith, h, ap length e))

pub set_over : (s : Slots) (j : ℕ) (x y : List ℕ) → set_slot s j y ≡ set (set_slot s j x) j y
set_over [] zero x y = refl
set_over [] (suc j) x y = ap (λ r. [] ∷ r) (set_over [] j x y)
set_over (a ∷ s) zero x y = refl
set_over (a ∷ s) (suc j) x y = ap (λ r. a ∷ r) (set_over s j x y)

pub set_is : (s : Slots) (j : ℕ) (y : List ℕ) → j < length s → set_slot s j y ≡ set s j y
set_is [] j y h = absurd (omega arith)
set_is (a ∷ s) zero y h = refl
set_is (a ∷ s) (suc j) y h = ap (λ r. a ∷ r) (set_is s j y (omega arith))

pub edited_some : (s : Slots) (j : ℕ) (y : List ℕ) → 0 < length y → edited s j y ≡ set_slot s j y
edited_some s j [] h = absurd (omega arith)
edited_some s j (b ∷ bs) h = refl

set_turns : (s : Slots) (i j : ℕ) (y z : List ℕ) → i ≢ j → j < length s → set_slot (set s j y) i z ≡ set (set_slot s i z) j y
set_turns [] i j y z ne h = absurd (omega arith)
set_turns (a ∷ s) zero zero y z ne h = absurd (ne refl)
set_turns (a ∷ s) (suc i) zero y z ne h = refl
set_turns (a ∷ s) zero (suc j) y z ne h = refl
set_turns (a ∷ s) (suc i) (suc j) y z ne h = ap (λ r. a ∷ r) (set_turns s i j y z (λ e. ne (ap (λ n. suc n) e)) (omega arith))

sets_turn : (s : Slots) (i j : ℕ) (y z : List ℕ) → i ≢ j → set (set s j y) i z ≡ set (set s i z) j y
sets_turn [] i j y z ne = refl
sets_turn (a ∷ s) zero zero y z ne = absurd (ne refl)
sets_turn (a ∷ s) (suc i) zero y z ne = refl
sets_turn (a ∷ s) zero (suc j) y z ne = refl
sets_turn (a ∷ s) (suc i) (suc j) y z ne = ap (λ r. a ∷ r) (sets_turn s i j y z (λ e. ne (ap (λ n. suc n) e)))

set_there : (s : Slots) (j : ℕ) (y : List ℕ) → length (set s j y) ≡ length s
set_there [] j y = refl
set_there (a ∷ s) zero y = refl
set_there (a ∷ s) (suc j) y = ap (λ n. suc n) (set_there s j y)

pub set_other : (s : Slots) (i j : ℕ) (y : List ℕ) → i ≢ j → get_or (set s j y) i [] ≡ get_or s i []
set_other [] i j y ne = refl
set_other (a ∷ s) zero zero y ne = absurd (ne refl)
set_other (a ∷ s) (suc i) zero y ne = refl
set_other (a ∷ s) zero (suc j) y ne = refl
set_other (a ∷ s) (suc i) (suc j) y ne = set_other s i j y (λ e. ne (ap (λ n. suc n) e))

before_some : (a : List ℕ) (s : Slots) → 0 < length s → before a s ≡ a ∷ s
before_some a [] h = absurd (omega arith)
before_some [] (b ∷ s) h = refl
before_some (c ∷ cs) (b ∷ s) h = refl

full_first : (a : List ℕ) (s : Slots) → 0 < length a → before a s ≡ a ∷ s
full_first [] s h = absurd (omega arith)
full_first (c ∷ cs) s h = refl

-- a slot that isn't empty is one of the page's
pub there : (s : Slots) (j : ℕ) → 0 < length (get_or s j []) → j < length s
there [] j h = absurd (omega arith)
there (a ∷ s) zero h = omega arith
there (a ∷ s) (suc j) h = omega (arith, there s j h)

trimmed_slot : (s : Slots) (j : ℕ) → get_or (trimmed s) j [] ≡ get_or s j []
trimmed_slot [] j = refl
trimmed_slot (a ∷ s) zero = first a (trimmed s)
  where
    first : (a : List ℕ) (u : Slots) → get_or (before a u) 0 [] ≡ a
    first [] [] = refl
    first [] (b ∷ u) = refl
    first (c ∷ cs) u = refl
trimmed_slot (a ∷ s) (suc j) = later a (trimmed s) j ∙ trimmed_slot s j
  where
    later : (a : List ℕ) (u : Slots) (j : ℕ) → get_or (before a u) (suc j) [] ≡ get_or u j []
    later [] [] j = refl
    later [] (b ∷ u) j = refl
    later (c ∷ cs) u j = refl

trimmed_set : (s : Slots) (j : ℕ) (y : List ℕ) → 0 < length y → 0 < length (get_or s j []) → trimmed (set s j y) ≡ set (trimmed s) j y
trimmed_set [] j y some was = refl
trimmed_set (a ∷ s) zero y some was = full_first y (trimmed s) some ∙ ap (λ r. set r 0 y) (sym (full_first a (trimmed s) was))
trimmed_set (a ∷ s) (suc j) y some was =
    let rest : trimmed (set s j y) ≡ set (trimmed s) j y = trimmed_set s j y some was in
    let lt : j < length (trimmed s) = there (trimmed s) j (subst (λ x. 0 < length x) (sym (trimmed_slot s j)) was) in
    ap (before a) rest ∙ before_some a (set (trimmed s) j y) (omega (arith, lt, set_there (trimmed s) j y)) ∙ ap (λ r. set r (suc j) y) (sym (before_some a (trimmed s) (omega (arith, lt))))

pub edited_turns : (s : Slots) (i j : ℕ) (y z : List ℕ) → i ≢ j → 0 < length y → 0 < length (get_or s j []) → edited (set s j y) i z ≡ set (edited s i z) j y
edited_turns s i j y [] ne some was =
    ap trimmed (sets_turn s i j y [] ne) ∙ trimmed_set (set s i []) j y some (subst (λ x. 0 < length x) (sym (set_other s j i [] (λ e. ne (sym e)))) was)
edited_turns s i j y (b ∷ bs) ne some was = set_turns s i j y (b ∷ bs) ne (there s j was)

pub used_set : (s : Slots) (j : ℕ) (y : List ℕ) → j < length s → length y ≡ length (get_or s j []) → used (set s j y) ≡ used s
used_set s j y lt size =
    let bytes = row_bytes-set_slot s j y in
    let count = length-set_slot s j y in
    ap used (sym (set_is s j y lt)) ∙ omega (arith, bytes, count, size, lt)

-- THE OTHER SLOT ON ONE PAGE

-- these slots are those, with slot j's bytes y in place of x
pub record IsFilled (j : ℕ) (x y : List ℕ) (slots other : Slots) : Type 0 where
  pub was : get_or slots j [] ≡ x
  pub is : other ≡ set slots j y

module _ (j : ℕ) (x y : List ℕ) (some : 0 < length x) (size : length y ≡ length x) where
  filled_there : (s t : Slots) → IsFilled j x y s t → j < length s
  filled_there s t f = there s j (omega (arith, some, ap length f.was))

  pub filled_edit : (s t : Slots) (i : ℕ) (z : List ℕ) → i ≢ j → IsFilled j x y s t → IsFilled j x y (edited s i z) (edited t i z)
  filled_edit s t i z ne f = record {
    was = slot_at-edited_other s i j z (λ e. ne (sym e)) ∙ f.was;
    is = ap (λ u. edited u i z) f.is ∙ edited_turns s i j y z ne (omega (arith, size, some)) (omega (arith, some, ap length f.was));
  }

  pub filled_used : (s t : Slots) → IsFilled j x y s t → used t ≡ used s
  filled_used s t f = ap used f.is ∙ used_set s j y (filled_there s t f) (size ∙ sym (ap length f.was))

  pub filled_slot : (s t : Slots) (i : ℕ) → i ≢ j → IsFilled j x y s t → slot_at t i ≡ slot_at s i
  filled_slot s t i ne f = ap (λ u. slot_at u i) f.is ∙ set_other s i j y ne

  pub filled_new : (s : Slots) → IsFilled j x y (edited s j x) (edited s j y)
  filled_new s = record {
    was = slot_at-edited_same s j x;
    is = edited_some s j y (omega (arith, size, some)) ∙ set_over s j x y ∙ ap (λ u. set u j y) (sym (edited_some s j x some));
  }

  pub filled_is : (s t : Slots) → IsFilled j x y s t → t ≡ edited s j y
  filled_is s t f = f.is ∙ sym (set_is s j y (filled_there s t f)) ∙ sym (edited_some s j y (omega (arith, size, some)))
