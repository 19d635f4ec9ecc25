-- What callers know of pages: the blank one, each slot after an edit, and that the slots tell a page.
use Rattle.std.proofs.Common.{◌≡◌, ◌≢◌, ℕ, zero, suc, ◌-◌, cond, ◌==◌, List, [], ◌∷◌, ◌++◌, length, set, replicate, refl, ap, sym, ◌∙◌, arith, inl, inr, eq-eqb, get_or-set_same, get_or-set_other}
use Rattle.std.proofs.lemmas.Bool.{cases_lt, cases_eq, ne_eqb}
use Rattle.std.proofs.lemmas.List.{get_or_past, set_past, replicate-append-replicate, append-nil}
use Rattle.page_base.specs.Pages.{blank}
use Rattle.page_fmt.specs.Spelling.{spell, header, LastIsFull}
use Rattle.page_fmt.specs.Content.{content, IsPage}
use Rattle.page_fmt.specs.Edits.{trimmed, cleared, edited, slot_at}
use Rattle.page_fmt.proofs.SlotLemmas.{get_or-set_slot_same, get_or-set_slot_other, LastIsFull-set_slot}
use Rattle.page_fmt.proofs.PaddingLemmas.{empties, trimmed-parts, LastIsFull-trimmed}
use Rattle.page_fmt.proofs.SetLemmas.{page_of, content_of}

-- THE BLANK PAGE

spell-nil : blank ≡ spell []
unfolding blank spell header
spell-nil = sym (replicate-append-replicate 96 8096 0) ∙ ap (λ z. replicate 96 0 ++ z) (sym (append-nil (replicate 8096 0)))

pub content-blank : content blank ≡ []
content-blank = content_of blank [] spell-nil (omega arith)

pub IsPage-blank : IsPage blank
IsPage-blank = page_of blank [] spell-nil (record { small = omega arith; last = tt })

-- what `using` names, so that a caller's blank page is known for one
pub ruleset blank_page = (content-blank, IsPage-blank)

-- EACH SLOT AFTER AN EDIT

slot_at-empties : (xs : List (List ℕ)) (k j : ℕ) → slot_at (xs ++ empties k) j ≡ slot_at xs j
slot_at-empties [] zero j = refl
slot_at-empties [] (suc k) zero = refl
slot_at-empties [] (suc k) (suc j) = slot_at-empties [] k j
slot_at-empties (x ∷ xs) k zero = refl
slot_at-empties (x ∷ xs) k (suc j) = slot_at-empties xs k j

slot_at-trimmed : (xs : List (List ℕ)) (j : ℕ) → slot_at (trimmed xs) j ≡ slot_at xs j
slot_at-trimmed xs j = sym (slot_at-empties (trimmed xs) (length xs - length (trimmed xs)) j) ∙ ap (λ s. slot_at s j) (trimmed-parts xs)

slot_at-cleared_same : (xs : List (List ℕ)) (i : ℕ) → slot_at (cleared xs i) i ≡ []
slot_at-cleared_same xs i =
    slot_at-trimmed (set xs i []) i
    ∙ elim (cases_lt i (length xs)) [
      | inl lt ↦ get_or-set_same xs i [] [] lt
      | inr past ↦ ap (λ s. slot_at s i) (set_past xs i [] past) ∙ get_or_past xs i [] past
    ]

slot_at-cleared_other : (xs : List (List ℕ)) (i j : ℕ) → j ≢ i → slot_at (cleared xs i) j ≡ slot_at xs j
slot_at-cleared_other xs i j ne = slot_at-trimmed (set xs i []) j ∙ get_or-set_other xs i j [] [] ne

pub slot_at-edited_same : (slots : List (List ℕ)) (i : ℕ) (x : List ℕ) → slot_at (edited slots i x) i ≡ x
slot_at-edited_same slots i [] = slot_at-cleared_same slots i
slot_at-edited_same slots i (b ∷ bs) = get_or-set_slot_same slots i (b ∷ bs)

pub slot_at-edited_other : (slots : List (List ℕ)) (i j : ℕ) (x : List ℕ) → j ≢ i → slot_at (edited slots i x) j ≡ slot_at slots j
slot_at-edited_other slots i j [] ne = slot_at-cleared_other slots i j ne
slot_at-edited_other slots i j (b ∷ bs) ne = get_or-set_slot_other slots i j (b ∷ bs) ne

-- all slots at once, as a function
pub slot_at-edited : (slots : List (List ℕ)) (i : ℕ) (x : List ℕ) → slot_at (edited slots i x) ≡ (λ j. cond (i == j) x (slot_at slots j))
slot_at-edited slots i x = λ p j. (elim (cases_eq i j) as (λ c. slot_at (edited slots i x) j ≡ cond (i == j) x (slot_at slots j)) [
  | inl e ↦ ap (slot_at (edited slots i x)) (sym e) ∙ slot_at-edited_same slots i x ∙ sym (ap (λ b. cond b x (slot_at slots j)) (eq-eqb i j e))
  | inr ne ↦ slot_at-edited_other slots i j x (λ e. ne (sym e)) ∙ sym (ap (λ b. cond b x (slot_at slots j)) (ne_eqb i j ne))
]) p

-- THE SLOTS TELL A PAGE

last_is_full : (y : List ℕ) (ys : List (List ℕ)) → LastIsFull (y ∷ ys) → slot_at (y ∷ ys) (length ys) ≢ []
last_is_full y [] h = h
last_is_full y (z ∷ zs) h = last_is_full z zs h

rest_is_full : (y : List ℕ) (ys : List (List ℕ)) → LastIsFull (y ∷ ys) → LastIsFull ys
rest_is_full y [] h = tt
rest_is_full y (z ∷ zs) h = h

pub same_slots : (xs ys : List (List ℕ)) → LastIsFull xs → LastIsFull ys → ((j : ℕ) → slot_at xs j ≡ slot_at ys j) → xs ≡ ys
same_slots [] [] hx hy h = refl
same_slots [] (y ∷ ys) hx hy h = absurd (last_is_full y ys hy (sym (h (length ys))))
same_slots (x ∷ xs) [] hx hy h = absurd (last_is_full x xs hx (h (length xs)))
same_slots (x ∷ xs) (y ∷ ys) hx hy h = λ i. h 0 i ∷ same_slots xs ys (rest_is_full x xs hx) (rest_is_full y ys hy) (λ j. h (suc j)) i

-- two pages with the same slots are the same bytes
pub same_page : (a b : List ℕ) → IsPage a → IsPage b → ((j : ℕ) → slot_at (content a) j ≡ slot_at (content b) j) → a ≡ b
same_page a b ha hb h = ha.spelled ∙ ap spell (same_slots (content a) (content b) ha.fits.last hb.fits.last h) ∙ sym hb.spelled

-- an edit leaves no empty slot at the end
pub LastIsFull-edited : (slots : List (List ℕ)) (i : ℕ) (x : List ℕ) → LastIsFull slots → LastIsFull (edited slots i x)
LastIsFull-edited slots i [] last = LastIsFull-trimmed (set slots i [])
LastIsFull-edited slots i (b ∷ bs) last = LastIsFull-set_slot slots i (b ∷ bs) (λ e. cc) last

-- a slot that has these bytes already
pub edited-same : (slots : List (List ℕ)) (i : ℕ) → LastIsFull slots → edited slots i (slot_at slots i) ≡ slots
edited-same slots i last = same_slots (edited slots i (slot_at slots i)) slots (LastIsFull-edited slots i (slot_at slots i) last) last (λ j. elim (cases_eq j i) [
  | inl e ↦ ap (slot_at (edited slots i (slot_at slots i))) e ∙ slot_at-edited_same slots i (slot_at slots i) ∙ ap (slot_at slots) (sym e)
  | inr ne ↦ slot_at-edited_other slots i j (slot_at slots i) ne
])
