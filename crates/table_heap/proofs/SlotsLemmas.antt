-- The slots of a leaf and the bytes that they take.
use Rattle.std.proofs.Common.{refl, ◌≡◌, ◌≢◌, ℕ, zero, suc, ◌+◌, ◌-◌, ◌*◌, ◌<◌, ◌≤◌, List, [], ◌∷◌, ◌++◌, length, take, drop, get_or, set, ap, sym, ◌∙◌, arith, inl, inr, ◌⊎◌}
use Rattle.std.proofs.lemmas.List.{take_more, drop_more, take_all, drop_all}
use Rattle.std.proofs.lemmas.Bool.{cases_lt, cases_order}
use Rattle.page_fmt.specs.Edits.{set_slot, cleared, trimmed, before}
use Rattle.page_fmt.specs.Spelling.{used, row_bytes, LastIsFull, FitsPage}
use Rattle.page_fmt.proofs.SlotLemmas.{LastIsFull-set_slot}
use Rattle.table_heap.specs.Places.{IsFirstEmpty}

abbrev Slots : Type 0
Slots = List (List ℕ)

-- HOW MANY BYTES

-- the bytes that are counted and those to come
abbrev pub Counted : Slots → ℕ → ℕ → Type 0
Counted slots i n = n + (row_bytes (drop i slots) + 2 * length (drop i slots)) ≡ used slots

pub counted_begin : (slots : Slots) → Counted slots 0 96
counted_begin slots = omega arith

pub counted_more : (slots : Slots) (i n : ℕ) (x : List ℕ) → Counted slots i n → i < length slots → x ≡ get_or slots i x → Counted slots (i + 1) (n + (length x + 2))
counted_more slots i n x c h is =
    let d = drop_more slots i x h in
    let bytes : row_bytes (drop i slots) ≡ length (get_or slots i x) + row_bytes (drop (i + 1) slots) = ap row_bytes d in
    let many : length (drop i slots) ≡ suc (length (drop (i + 1) slots)) = ap length d in
    let same : length x ≡ length (get_or slots i x) = ap length is in
    omega arith

pub counted_room : (slots : Slots) (i n : ℕ) (x : List ℕ) → Counted slots i n → i < length slots → x ≡ get_or slots i x → n + (length x + 2) ≤ used slots
counted_room slots i n x c h is = let more = counted_more slots i n x c h is in omega arith

pub counted_end : (slots : Slots) (i n : ℕ) → Counted slots i n → length slots ≤ i → n ≡ used slots
counted_end slots i n c h =
    let d : drop i slots ≡ [] = drop_all i slots h in
    let bytes : row_bytes (drop i slots) ≡ 0 = ap row_bytes d in
    let many : length (drop i slots) ≡ 0 = ap length d in
    omega arith

-- THE EMPTY SLOTS AT THE END

trimmed_full : (xs : Slots) (x : List ℕ) → x ≢ [] → trimmed (xs ++ x ∷ []) ≡ xs ++ x ∷ []
trimmed_full [] [] ne = absurd (ne refl)
trimmed_full [] (b ∷ bs) ne = refl
trimmed_full (y ∷ ys) x ne = ap (before y) (trimmed_full ys x ne) ∙ front y ys x
  where
    front : (y : List ℕ) (ys : Slots) (x : List ℕ) → before y (ys ++ x ∷ []) ≡ y ∷ (ys ++ x ∷ [])
    front [] [] x = refl
    front [] (z ∷ zs) x = refl
    front (b ∷ bs) ys x = refl

trimmed_empty : (xs : Slots) → trimmed (xs ++ [] ∷ []) ≡ trimmed xs
trimmed_empty [] = refl
trimmed_empty (y ∷ ys) = ap (before y) (trimmed_empty ys)

-- so many of the slots up to one are left
abbrev pub Filled : Slots → ℕ → ℕ → Type 0
Filled slots i n = take n slots ≡ trimmed (take i slots)

pub filled_full : (slots : Slots) (i : ℕ) (x : List ℕ) → i < length slots → x ≡ get_or slots i x → x ≢ [] → Filled slots (i + 1) (i + 1)
filled_full slots i x h is ne =
    let e : take (i + 1) slots ≡ take i slots ++ x ∷ [] = take_more slots i x h ∙ ap (λ y. take i slots ++ y ∷ []) (sym is) in
    e ∙ sym (trimmed_full (take i slots) x ne) ∙ ap trimmed (sym e)

pub filled_empty : (slots : Slots) (i n : ℕ) (x : List ℕ) → i < length slots → x ≡ get_or slots i x → x ≡ [] → Filled slots i n → Filled slots (i + 1) n
filled_empty slots i n x h is none f =
    let e : take (i + 1) slots ≡ take i slots ++ [] ∷ [] = take_more slots i x h ∙ ap (λ y. take i slots ++ y ∷ []) (sym is ∙ none) in
    f ∙ sym (trimmed_empty (take i slots)) ∙ ap trimmed (sym e)

pub filled_end : (slots : Slots) (i n : ℕ) → Filled slots i n → length slots ≤ i → take n slots ≡ trimmed slots
filled_end slots i n f h = f ∙ ap trimmed (take_all i slots h)

in_front : (x : List ℕ) (ys : Slots) → LastIsFull ys → LastIsFull (before x ys)
in_front [] [] l = l
in_front [] (y ∷ ys) l = l
in_front (b ∷ bs) [] l = λ e. let n : suc (length bs) ≡ 0 = ap length e in absurd (omega arith)
in_front (b ∷ bs) (y ∷ ys) l = l

last_trimmed : (xs : Slots) → LastIsFull (trimmed xs)
last_trimmed [] = tt
last_trimmed (x ∷ xs) = in_front x (trimmed xs) (last_trimmed xs)

used_trimmed : (xs : Slots) → used (trimmed xs) ≤ used xs
used_trimmed [] = omega arith
used_trimmed (x ∷ xs) = let h = used_trimmed xs in let f = front x (trimmed xs) in omega arith
  where
    front : (x : List ℕ) (ys : Slots) → used (before x ys) ≤ used ys + (length x + 2)
    front [] [] = omega arith
    front [] (y ∷ ys) = omega arith
    front (b ∷ bs) ys = omega arith

used_set : (xs : Slots) (i : ℕ) (x : List ℕ) → i < length xs → used (set xs i x) + length (get_or xs i []) ≡ used xs + length x
used_set [] i x h = absurd (omega arith)
used_set (y ∷ ys) zero x h = omega arith
used_set (y ∷ ys) (suc i) x h = let r = used_set ys i x (omega arith) in omega arith

-- a leaf without a slot is no larger
pub fits_cleared : (slots : Slots) (i : ℕ) → i < length slots → FitsPage slots → FitsPage (cleared slots i)
fits_cleared slots i h f = record {
  small = let u = used_set slots i [] h in let t = used_trimmed (set slots i []) in let s = f.small in omega arith;
  last = last_trimmed (set slots i []);
}

-- ROOM

pub set_within : (xs : Slots) (j : ℕ) (x : List ℕ) → j < length xs → set_slot xs j x ≡ set xs j x
set_within [] j x h = absurd (omega arith)
set_within (y ∷ ys) zero x h = refl
set_within (y ∷ ys) (suc j) x h = ap (λ zs. y ∷ zs) (set_within ys j x (omega arith))

pub set_behind : (xs : Slots) (j : ℕ) (x : List ℕ) → j ≡ length xs → set_slot xs j x ≡ xs ++ x ∷ []
set_behind [] zero x h = refl
set_behind [] (suc j) x h = absurd (omega arith)
set_behind (y ∷ ys) zero x h = absurd (omega arith)
set_behind (y ∷ ys) (suc j) x h = ap (λ zs. y ∷ zs) (set_behind ys j x (omega arith))

pub used_within : (slots : Slots) (i : ℕ) (x old : List ℕ) → i < length slots → old ≡ get_or slots i old → used (set_slot slots i x) + length old ≡ used slots + length x
used_within slots i x old h is =
    let e : used (set_slot slots i x) ≡ used (set slots i x) = ap used (set_within slots i x h) in
    let u = used_set slots i x h in
    let same : length old ≡ length (get_or slots i []) = ap length (at slots i old h is) in
    omega arith
  where
    at : (xs : Slots) (i : ℕ) (x : List ℕ) → i < length xs → x ≡ get_or xs i x → x ≡ get_or xs i []
    at [] i x h e = absurd (omega arith)
    at (y ∷ ys) zero x h e = e
    at (y ∷ ys) (suc i) x h e = at ys i x (omega arith) e

pub used_behind : (slots : Slots) (i : ℕ) (x : List ℕ) → i ≡ length slots → used (set_slot slots i x) ≡ used slots + (length x + 2)
used_behind slots i x h = ap used (set_behind slots i x h) ∙ snoc slots x
  where
    snoc : (xs : Slots) (x : List ℕ) → used (xs ++ x ∷ []) ≡ used xs + (length x + 2)
    snoc [] x = omega arith
    snoc (y ∷ ys) x = let h = snoc ys x in omega arith

-- where the first empty slot is
first_one : (slots : Slots) (i j : ℕ) → IsFirstEmpty slots i → IsFirstEmpty slots j → i ≡ j
first_one slots i j a b = elim (cases_order i j) [ inl e ↦ e | inr (inl lt) ↦ absurd (b.first i lt a.empty) | inr (inr gt) ↦ absurd (a.first j gt b.empty) ]

-- a new row of so many bytes has room, or hasn't
pub used_first : (slots : Slots) (i : ℕ) (x : List ℕ) → IsFirstEmpty slots i → used slots + length x ≤ used (set_slot slots i x)
used_first slots i x f = elim (cases_lt i (length slots)) [
  | inl lt ↦ let u = used_within slots i x [] lt (sym f.empty) in omega arith
  | inr past ↦ let there = f.there in let u = used_behind slots i x (omega arith) in omega arith
]

pub room_left : (slots : Slots) (taken size i : ℕ) → taken ≡ used slots → used slots ≤ 8192 → IsFirstEmpty slots i → size ≤ 8192 - taken → (i ≢ length slots ⊎ (size + 2 ≤ 8192 - taken)) → (x : List ℕ) → length x ≡ size → used (set_slot slots i x) ≤ 8192
room_left slots taken size i t s f some more x e = elim (cases_lt i (length slots)) [
  | inl lt ↦ let u = used_within slots i x [] lt (sym f.empty) in omega arith
  | inr past ↦
      let there = f.there in let u = used_behind slots i x (omega arith) in
      elim more [ inl ne ↦ absurd (ne (omega arith)) | inr h ↦ omega arith ]
]

pub no_room : (slots : Slots) (taken size : ℕ) → taken ≡ used slots → used slots ≤ 8192 → 8192 - taken < size → (x : List ℕ) (j : ℕ) → length x ≡ size → IsFirstEmpty slots j → 8192 < used (set_slot slots j x)
no_room slots taken size t s lacks x j e f = let u = used_first slots j x f in omega arith

pub no_room_behind : (slots : Slots) (taken size i : ℕ) → taken ≡ used slots → used slots ≤ 8192 → IsFirstEmpty slots i → i ≡ length slots → 8192 - taken < size + 2 → (x : List ℕ) (j : ℕ) → length x ≡ size → IsFirstEmpty slots j → 8192 < used (set_slot slots j x)
no_room_behind slots taken size i t s f at lacks x j e g =
    let same : j ≡ i = first_one slots j i g f in
    let u = used_behind slots j x (same ∙ at) in
    omega arith

pub room_within : (slots : Slots) (taken size slot : ℕ) (old : List ℕ) → taken ≡ used slots → used slots ≤ 8192 → slot < length slots → old ≡ get_or slots slot old → (x : List ℕ) → length x ≡ size → size ≤ 8192 - taken + length old → used (set_slot slots slot x) ≤ 8192
room_within slots taken size slot old t s h is x e room = let u = used_within slots slot x old h is in omega arith

pub lacks_within : (slots : Slots) (taken size slot : ℕ) (old : List ℕ) → taken ≡ used slots → used slots ≤ 8192 → slot < length slots → old ≡ get_or slots slot old → (x : List ℕ) → length x ≡ size → 8192 - taken + length old < size → 8192 < used (set_slot slots slot x)
lacks_within slots taken size slot old t s h is x e room = let u = used_within slots slot x old h is in omega arith

-- a slot is no longer than its page
pub slot_bound : (slots : Slots) (i : ℕ) (x : List ℕ) → i < length slots → x ≡ get_or slots i x → length x + 96 ≤ used slots
slot_bound slots i x h is = let u = used_within slots i [] x h is in omega (arith, zero_bytes (set_slot slots i []))
  where
    zero_bytes : (xs : Slots) → 96 ≤ used xs
    zero_bytes xs = omega arith

pub fits_set : (slots : Slots) (i : ℕ) (x : List ℕ) → x ≢ [] → used (set_slot slots i x) ≤ 8192 → FitsPage slots → FitsPage (set_slot slots i x)
fits_set slots i x ne room f = record { small = room; last = LastIsFull-set_slot slots i x ne f.last }
