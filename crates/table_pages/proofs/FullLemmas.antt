-- Lists of slots whose last one is full, and how many bytes a page takes with them.
use Rattle.std.proofs.Common.{◌≡◌, ◌≢◌, ℕ, zero, suc, ◌+◌, ◌<◌, ◌≤◌, inl, inr, List, [], ◌∷◌, length, set, refl, ap, arith}
use Rattle.std.proofs.lemmas.Bool.{cases_lt}
use Rattle.std.proofs.lemmas.List.{get_or_past}
use Rattle.page_fmt.specs.Spelling.{row_bytes, used, LastIsFull}
use Rattle.page_fmt.specs.Edits.{before, trimmed, edited, slot_at}
use Rattle.page_fmt.proofs.SlotLemmas.{LastIsFull-set_slot}

last_before : (x : List ℕ) (xs : List (List ℕ)) → LastIsFull xs → LastIsFull (before x xs)
last_before [] [] last = tt
last_before [] (y ∷ ys) last = last
last_before (b ∷ bs) [] last = λ e. cc
last_before (b ∷ bs) (y ∷ ys) last = last

last_trimmed : (xs : List (List ℕ)) → LastIsFull (trimmed xs)
last_trimmed [] = tt
last_trimmed (x ∷ xs) = last_before x (trimmed xs) (last_trimmed xs)

-- the last slot stays full where a slot is set or emptied
pub last_edited : (slots : List (List ℕ)) (i : ℕ) (x : List ℕ) → LastIsFull slots → LastIsFull (edited slots i x)
last_edited slots i [] last = last_trimmed (set slots i [])
last_edited slots i (b ∷ bs) last = LastIsFull-set_slot slots i (b ∷ bs) (λ e. cc) last

no_bytes : (bs : List ℕ) → length bs ≡ 0 → bs ≡ []
no_bytes [] e = refl
no_bytes (b ∷ bs) e = absurd (omega arith)

last_is_full : (y : List ℕ) (ys : List (List ℕ)) → LastIsFull (y ∷ ys) → slot_at (y ∷ ys) (length ys) ≢ []
last_is_full y [] h = h
last_is_full y (z ∷ zs) h = last_is_full z zs h

-- slots none of which is longer than that of another page
rows_below : (xs ys : List (List ℕ)) → ((j : ℕ) → length (slot_at xs j) ≤ length (slot_at ys j)) → row_bytes xs ≤ row_bytes ys
rows_below [] ys h = omega arith
rows_below (x ∷ xs) [] h = let first = h 0 in let rest = rows_below xs [] (λ j. h (suc j)) in omega arith
rows_below (x ∷ xs) (y ∷ ys) h = let first = h 0 in let rest = rows_below xs ys (λ j. h (suc j)) in omega arith

count_below : (xs ys : List (List ℕ)) → LastIsFull xs → ((j : ℕ) → length (slot_at xs j) ≤ length (slot_at ys j)) → length xs ≤ length ys
count_below [] ys last h = omega arith
count_below (x ∷ xs) ys last h = elim (cases_lt (length xs) (length ys)) [
  | inl lt ↦ omega arith
  | inr past ↦
      let low = h (length xs) in
      let none : length (slot_at ys (length xs)) ≡ 0 = ap length (get_or_past ys (length xs) [] past) in
      absurd (last_is_full x xs last (no_bytes (slot_at (x ∷ xs) (length xs)) (omega arith)))
]

-- they take no more bytes
pub used_below : (xs ys : List (List ℕ)) → LastIsFull xs → ((j : ℕ) → length (slot_at xs j) ≤ length (slot_at ys j)) → used xs ≤ used ys
used_below xs ys last h = let rows = rows_below xs ys h in let count = count_below xs ys last h in omega arith
