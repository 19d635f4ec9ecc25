-- Slots of pages as lists: what one slot, and a changed one, are in them.
use Rattle.std.proofs.Common.{refl, ◌≡◌, ℕ, zero, suc, ◌+◌, ◌<◌, ◌≤◌, ◌==◌, ◌&&◌, List, [], ◌∷◌, length, get_or, ap, sym, ◌∙◌, arith, Bool, true, false, cond, inl, inr}
use Rattle.std.proofs.lemmas.Bool.{cases_lt, ne_eqb}
use Rattle.std.proofs.lemmas.List.{get_or_past}
use Rattle.page_base.specs.declared.limits.TheConstants.{MAX_SLOTS}
use Rattle.page_base.specs.declared.numbers.PageId.{PageId}
use Rattle.page_base.specs.Pages.{is_page, set_at}
use Rattle.page_base.specs.Slots.{Slots, with_slot}
use Rattle.page_base.proofs.PagesLemmas.{is_page-true}
use Rattle.page_fmt.specs.Bridge.{slots_in, AreFull}
use Rattle.page_fmt.specs.Edits.{edited, slot_at, trimmed, before}
use Rattle.page_fmt.specs.Seen.{SlotsAt}
use Rattle.page_fmt.specs.Spelling.{LastIsFull}
use Rattle.page_fmt.proofs.CallerLemmas.{slot_at-edited, same_slots, LastIsFull-edited}
use Rattle.table_walk.proofs.EditLemmas.{LastIsFull-trimmed}
use Rattle.page_tables.specs.Sheets.{first_slots, sheets}

slot_of_first : (f : ℕ → List ℕ) (n i : ℕ) → i < n → get_or (first_slots f n) i [] ≡ f i
slot_of_first f zero i h = absurd (omega arith)
slot_of_first f (suc n) zero h = refl
slot_of_first f (suc n) (suc i) h = slot_of_first (λ j. f (j + 1)) n i (omega arith) ∙ ap f (one_more i)
  where
    one_more : (i : ℕ) → i + 1 ≡ suc i
    one_more i = omega arith

length_of_first : (f : ℕ → List ℕ) (n : ℕ) → length (first_slots f n) ≡ n
length_of_first f zero = refl
length_of_first f (suc n) = ap (λ k. suc k) (length_of_first (λ j. f (j + 1)) n)

past_first : (f : ℕ → List ℕ) (n i : ℕ) → n ≤ i → get_or (first_slots f n) i [] ≡ []
past_first f n i h = get_or_past (first_slots f n) i [] (omega (arith, length_of_first f n))

trimmed_slot : (s : List (List ℕ)) (j : ℕ) → get_or (trimmed s) j [] ≡ get_or s j []
trimmed_slot [] j = refl
trimmed_slot (a ∷ s) zero = first a (trimmed s)
  where
    first : (a : List ℕ) (u : List (List ℕ)) → get_or (before a u) 0 [] ≡ a
    first [] [] = refl
    first [] (b ∷ u) = refl
    first (c ∷ cs) u = refl
trimmed_slot (a ∷ s) (suc j) = later a (trimmed s) j ∙ trimmed_slot s j
  where
    later : (a : List ℕ) (u : List (List ℕ)) (j : ℕ) → get_or (before a u) (suc j) [] ≡ get_or u j []
    later [] [] j = refl
    later [] (b ∷ u) j = refl
    later (c ∷ cs) u j = refl

-- the sheet of a page, of n slots
abbrev sheet : (ℕ → List ℕ) → ℕ → List (List ℕ)
sheet f n = trimmed (first_slots f n)

module _ (f : ℕ → List ℕ) (n : ℕ) where
  sheet_slot : (i : ℕ) → i < n → slot_at (sheet f n) i ≡ f i
  sheet_slot i h = trimmed_slot (first_slots f n) i ∙ slot_of_first f n i h

  sheet_past : (i : ℕ) → n ≤ i → slot_at (sheet f n) i ≡ []
  sheet_past i h = trimmed_slot (first_slots f n) i ∙ past_first f n i h

  sheet_full : LastIsFull (sheet f n)
  sheet_full = LastIsFull-trimmed (first_slots f n)

-- a changed slot is an edit of the sheet
sheet_edited : (f g : ℕ → List ℕ) (n i : ℕ) (x : List ℕ) → i < n → ((j : ℕ) → g j ≡ cond (i == j) x (f j)) → sheet g n ≡ edited (sheet f n) i x
sheet_edited f g n i x h is = same_slots (sheet g n) (edited (sheet f n) i x) (sheet_full g n) (LastIsFull-edited (sheet f n) i x (sheet_full f n)) (λ j. elim (cases_lt j n) [
  | inl lt ↦ sheet_slot g n j lt ∙ is j ∙ ap (cond (i == j) x) (sym (sheet_slot f n j lt)) ∙ sym (λ k. slot_at-edited (sheet f n) i x k j)
  | inr ge ↦ sheet_past g n j ge ∙ sym (sheet_past f n j ge) ∙ sym (ap (λ b. cond b x (slot_at (sheet f n) j)) (ne_eqb i j (λ e. absurd (omega (arith, e, h, ge))))) ∙ sym (λ k. slot_at-edited (sheet f n) i x k j)
])

-- ALL PAGES

module _ (s : Slots) where
  pub sheets_are_full : AreFull (sheets s)
  unfolding sheets
  sheets_are_full p = sheet_full (s p) MAX_SLOTS

  pub slot_of_sheet : (p : PageId) (i : ℕ) → i < MAX_SLOTS → slot_at (sheets s p) i ≡ s p i
  unfolding sheets
  slot_of_sheet p i h = sheet_slot (s p) MAX_SLOTS i h

  pub past_sheet : (p : PageId) (i : ℕ) → MAX_SLOTS ≤ i → slot_at (sheets s p) i ≡ []
  unfolding sheets
  past_sheet p i h = sheet_past (s p) MAX_SLOTS i h

pub sheets_edited : (s : Slots) (p : PageId) (i : ℕ) (x : List ℕ) → i < MAX_SLOTS → sheets (with_slot s p i x) ≡ set_at (sheets s) p (edited (sheets s p) i x)
sheets_edited s p i x h = λ k q. at_page q k
  where
    at_page : (q : PageId) → sheets (with_slot s p i x) q ≡ cond (is_page p q) (edited (sheets s p) i x) (sheets s q)
    at_page q = same_slots (sheets (with_slot s p i x) q) (cond (is_page p q) (edited (sheets s p) i x) (sheets s q)) (sheets_are_full (with_slot s p i x) q) (full (is_page p q)) (λ j. elim (cases_lt j MAX_SLOTS) [
      | inl lt ↦ slot_of_sheet (with_slot s p i x) q j lt ∙ below (is_page p q) refl j lt
      | inr ge ↦ past_sheet (with_slot s p i x) q j ge ∙ beyond (is_page p q) j ge
    ])
      where
        full : (b : Bool) → LastIsFull (cond b (edited (sheets s p) i x) (sheets s q))
        full true = LastIsFull-edited (sheets s p) i x (sheets_are_full s p)
        full false = sheets_are_full s q

        below : (b : Bool) → is_page p q ≡ b → (j : ℕ) → j < MAX_SLOTS → cond (b && i == j) x (s q j) ≡ slot_at (cond b (edited (sheets s p) i x) (sheets s q)) j
        below true is j lt = ap (cond (i == j) x) (ap (λ r. s r j) (sym (is_page-true p q is)) ∙ sym (slot_of_sheet s p j lt)) ∙ sym (λ k. slot_at-edited (sheets s p) i x k j)
        below false is j lt = sym (slot_of_sheet s q j lt)

        beyond : (b : Bool) (j : ℕ) → MAX_SLOTS ≤ j → [] ≡ slot_at (cond b (edited (sheets s p) i x) (sheets s q)) j
        beyond true j ge = sym (past_sheet s p j ge) ∙ sym (ap (λ b. cond b x (slot_at (sheets s p) j)) (ne_eqb i j (λ e. absurd (omega (arith, e, h, ge))))) ∙ sym (λ k. slot_at-edited (sheets s p) i x k j)
        beyond false j ge = sym (past_sheet s q j ge)

-- lists of slots that end in none that is empty, and that a page can hold, are their own sheets
pub sheets_of_pages : (at : SlotsAt) → AreFull at → ((p : PageId) → length (at p) ≤ MAX_SLOTS) → sheets (slots_in at) ≡ at
sheets_of_pages at full few = λ k p. at_page p k
  where
    at_page : (p : PageId) → sheets (slots_in at) p ≡ at p
    at_page p = same_slots (sheets (slots_in at) p) (at p) (sheets_are_full (slots_in at) p) (full p) (λ j. elim (cases_lt j MAX_SLOTS) [
      | inl lt ↦ slot_of_sheet (slots_in at) p j lt
      | inr ge ↦ past_sheet (slots_in at) p j ge ∙ sym (get_or_past (at p) j [] (omega (arith, few p, ge)))
    ])

-- a page of the same slots has the same sheet
pub sheet_same : (s t : Slots) (p : PageId) → s p ≡ t p → sheets s p ≡ sheets t p
unfolding sheets
sheet_same s t p e = ap (λ f. trimmed (first_slots f MAX_SLOTS)) e
