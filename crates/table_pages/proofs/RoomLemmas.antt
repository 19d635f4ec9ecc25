-- How many bytes a page takes with a slot set.
use Rattle.std.proofs.Common.{◌≡◌, ◌≢◌, ℕ, ◌+◌, ◌*◌, ◌<◌, ◌≤◌, max, inl, inr, List, [], ◌∷◌, length, get_or, refl, ap, sym, ◌∙◌, arith}
use Rattle.std.proofs.lemmas.Bool.{cases_lt, cases_eq}
use Rattle.page_fmt.specs.Spelling as spelling
use Rattle.page_fmt.specs.Edits.{set_slot, edited, slot_at}
use Rattle.page_fmt.proofs.SlotLemmas.{length-set_slot, row_bytes-set_slot, row_bytes-slot, get_or-set_slot_same}
use Rattle.page_fmt.proofs.CallerLemmas.{slot_at-edited_same, slot_at-edited_other}
use Rattle.table_pages.specs.Drafting.{AreFull}

-- a page with an empty slot set
pub used-edited : (slots : List (List ℕ)) (i : ℕ) (x : List ℕ) → slot_at slots i ≡ [] → 0 < length x → spelling.used (edited slots i x) ≡ 96 + spelling.row_bytes slots + length x + 2 * max (length slots) (i + 1)
used-edited slots i [] empty some = absurd (omega arith)
used-edited slots i (b ∷ bs) empty some =
    let long = length-set_slot slots i (b ∷ bs) in
    let sum = row_bytes-set_slot slots i (b ∷ bs) in
    let none : length (get_or slots i []) ≡ 0 = ap length empty in
    omega arith

-- bytes that no page has room for
pub long_lacks : (slots : List (List ℕ)) (i : ℕ) (x : List ℕ) → 8094 < length x → 8192 < spelling.used (edited slots i x)
long_lacks slots i [] long = absurd (omega arith)
long_lacks slots i (b ∷ bs) long =
    let count = length-set_slot slots i (b ∷ bs) in
    let sum = row_bytes-slot (set_slot slots i (b ∷ bs)) i in
    let here : length (get_or (set_slot slots i (b ∷ bs)) i []) ≡ length (b ∷ bs) = ap length (get_or-set_slot_same slots i (b ∷ bs)) in
    omega arith

-- a slot that gets bytes is set
pub edited_some : (slots : List (List ℕ)) (i : ℕ) (x : List ℕ) → x ≢ [] → set_slot slots i x ≡ edited slots i x
edited_some slots i [] full = absurd (full refl)
edited_some slots i (b ∷ bs) full = refl

-- THE FULL SLOTS AT THE FRONT

-- none is known to be full
pub full_none : (slots : List (List ℕ)) → AreFull slots 0
full_none slots j pos le = absurd (omega arith)

-- one more is
pub full_more : (slots : List (List ℕ)) (i n : ℕ) → i ≡ n + 1 → slot_at slots i ≢ [] → AreFull slots n → AreFull slots i
full_more slots i n at here full j pos le empty = elim (cases_lt j i) [
  | inl low ↦ full j pos (omega arith) empty
  | inr high ↦ let same : j ≡ i = omega arith in here (ap (slot_at slots) (sym same) ∙ empty)
]

-- a slot is emptied
pub full_cut : (slots left : List (List ℕ)) (i n m : ℕ) → ((j : ℕ) → j ≢ i → slot_at left j ≡ slot_at slots j) → m ≤ n → (0 < m → m < i) → AreFull slots n → AreFull left m
full_cut slots left i n m others less before full j pos le empty =
    let low = before (omega arith) in
    full j pos (omega arith) (sym (others j (λ z. omega arith)) ∙ empty)

-- a slot is filled
pub full_put : (slots : List (List ℕ)) (i n : ℕ) (x : List ℕ) → x ≢ [] → AreFull slots n → AreFull (edited slots i x) n
full_put slots i n x some full j pos le empty = elim (cases_eq j i) [
  | inl here ↦ some (sym (slot_at-edited_same slots i x) ∙ ap (slot_at (edited slots i x)) (sym here) ∙ empty)
  | inr ne ↦ full j pos le (sym (slot_at-edited_other slots i j x ne) ∙ empty)
]
