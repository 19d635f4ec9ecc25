-- What is spelled is read back.
use Rattle.std.proofs.Common.{◌≡◌, ℕ, zero, suc, ◌+◌, ◌-◌, ◌*◌, ◌/◌, ◌%◌, ◌<◌, ◌≤◌, List, [], ◌∷◌, ◌++◌, length, replicate, get_or, take, drop, refl, ap, sym, ◌∙◌, arith, append_assoc, length-append}
use Rattle.std.proofs.lemmas.List.{get_or-append_right, take_at, drop_at, length-replicate, append-nil}
use Rattle.page_fmt.specs.Spelling.{le16, rows, row_bytes, offsets, table, used, header, spell}
use Rattle.page_fmt.specs.Content.{le16_at, offsets_at, next_start, slots_at, row_end, content}

pub length-rows : (xs : List (List ℕ)) → length (rows xs) ≡ row_bytes xs
length-rows [] = refl
length-rows (x ∷ xs) = omega (arith, length-append x (rows xs), length-rows xs)

pub length-table : (os : List ℕ) → length (table os) ≡ 2 * length os
length-table [] = refl
length-table (o ∷ os) = omega (arith, length-append (table os) (le16 o), length-table os)

pub length-offsets : (xs : List (List ℕ)) (at : ℕ) → length (offsets at xs) ≡ length xs
length-offsets [] at = refl
length-offsets ([] ∷ xs) at = omega (arith, length-offsets xs at)
length-offsets ((b ∷ bs) ∷ xs) at = omega (arith, length-offsets xs (at + length (b ∷ bs)))

pub length-header : (n r : ℕ) → length (header n r) ≡ 96
unfolding header
length-header n r = let e : length (replicate {A = ℕ} 92 0) ≡ 92 = length-replicate {A = ℕ} 92 0 in omega (arith, e)

-- a number in the middle
pub le16_at-mid : (pre post : List ℕ) (n at : ℕ) → length pre ≡ at → le16_at (pre ++ (le16 n ++ post)) at ≡ n
le16_at-mid pre post n at e =
    let low : get_or (pre ++ (le16 n ++ post)) at 0 ≡ n % 256 = get_or-append_right pre (le16 n ++ post) at at 0 e (omega arith) ∙ ap (λ k. get_or (le16 n ++ post) k 0) (at_start at) in
    let high : get_or (pre ++ (le16 n ++ post)) (at + 1) 0 ≡ n / 256 = get_or-append_right pre (le16 n ++ post) at (at + 1) 0 e (omega arith) ∙ ap (λ k. get_or (le16 n ++ post) k 0) (one_after at) in
    omega (arith, low, high)
  where
    at_start : (k : ℕ) → k - k ≡ 0
    at_start k = omega arith

    one_after : (k : ℕ) → k + 1 - k ≡ 1
    one_after k = omega arith

pub offsets_at-table : (front back os : List ℕ) → offsets_at (front ++ (table os ++ back)) (length front + 2 * length os - 2) (length os) ≡ os
offsets_at-table front back [] = refl
offsets_at-table front back (o ∷ os) =
    let image : front ++ ((table os ++ le16 o) ++ back) ≡ front ++ (table os ++ (le16 o ++ back)) = ap (λ x. front ++ x) (append_assoc (table os) (le16 o) back) in
    let at : length front + 2 * suc (length os) - 2 ≡ length front + 2 * length os = omega arith in
    let here : le16_at (front ++ (table os ++ (le16 o ++ back))) (length front + 2 * length os) ≡ o =
    ap (λ x. le16_at x (length front + 2 * length os)) (sym (append_assoc front (table os) (le16 o ++ back)))
    ∙ le16_at-mid (front ++ table os) back o (length front + 2 * length os) (omega (arith, length-append front (table os), length-table os)) in
    ap (λ x. offsets_at x (length front + 2 * suc (length os) - 2) (suc (length os))) image
    ∙ ap (λ k. offsets_at (front ++ (table os ++ (le16 o ++ back))) k (suc (length os))) at
    ∙ (λ i. here i ∷ offsets_at-table front (le16 o ++ back) os i)

pub next_start-offsets : (xs : List (List ℕ)) (at end : ℕ) → 0 < at → end ≡ at + row_bytes xs → next_start end (offsets at xs) ≡ at
next_start-offsets [] at end h e = omega arith
next_start-offsets ([] ∷ xs) at end h e = next_start-offsets xs at end h (omega arith)
next_start-offsets ((b ∷ bs) ∷ xs) zero end h e = absurd (omega arith)
next_start-offsets ((b ∷ bs) ∷ xs) (suc at) end h e = refl

slice_mid : (pre x post : List ℕ) (i j : ℕ) → length pre ≡ i → j ≡ i + length x → take (j - i) (drop i (pre ++ (x ++ post))) ≡ x
slice_mid pre x post i j e f = ap (take (j - i)) (drop_at pre (x ++ post) i e) ∙ take_at x post (j - i) (omega arith)

pub slots_at-spelled : (xs : List (List ℕ)) (pre post : List ℕ) (at end : ℕ) → length pre ≡ at → 0 < at → end ≡ at + row_bytes xs → slots_at (pre ++ (rows xs ++ post)) end (offsets at xs) ≡ xs
slots_at-spelled [] pre post at end e h f = refl
slots_at-spelled ([] ∷ xs) pre post at end e h f = ap (λ s. [] ∷ s) (slots_at-spelled xs pre post at end e h (omega arith))
slots_at-spelled ((b ∷ bs) ∷ xs) pre post zero end e h f = absurd (omega arith)
slots_at-spelled ((b ∷ bs) ∷ xs) pre post (suc at) end e h f =
    let x : List ℕ = b ∷ bs in
    let image : pre ++ ((x ++ rows xs) ++ post) ≡ pre ++ (x ++ (rows xs ++ post)) = ap (λ s. pre ++ s) (append_assoc x (rows xs) post) in
    let next : next_start end (offsets (suc at + length x) xs) ≡ suc at + length x = next_start-offsets xs (suc at + length x) end (omega arith) (omega arith) in
    let row : take (next_start end (offsets (suc at + length x) xs) - suc at) (drop (suc at) (pre ++ (x ++ (rows xs ++ post)))) ≡ x = slice_mid pre x (rows xs ++ post) (suc at) _ e next in
    let rest : slots_at (pre ++ (x ++ (rows xs ++ post))) end (offsets (suc at + length x) xs) ≡ xs =
    ap (λ s. slots_at s end (offsets (suc at + length x) xs)) (sym (append_assoc pre x (rows xs ++ post)))
    ∙ slots_at-spelled xs (pre ++ x) post (suc at + length x) end (omega (arith, length-append pre x)) (omega arith) (omega arith) in
    ap (λ s. slots_at s end (suc at ∷ offsets (suc at + length x) xs)) image ∙ (λ i. row i ∷ rest i)

pub count-header : (n r : ℕ) (rest : List ℕ) → le16_at (header n r ++ rest) 0 ≡ n
unfolding header
count-header n r rest = omega arith

pub bytes-header : (n r : ℕ) (rest : List ℕ) → le16_at (header n r ++ rest) 2 ≡ r
unfolding header
bytes-header n r rest = omega arith

pub offsets_at-spelled : (slots : List (List ℕ)) → used slots ≤ 8192 → offsets_at (spell slots) 8190 (length slots) ≡ offsets 96 slots
unfolding spell
offsets_at-spelled slots small =
    let head : List ℕ = header (length slots) (row_bytes slots) in
    let zeros : List ℕ = replicate (8192 - used slots) 0 in
    let os : List ℕ = offsets 96 slots in
    let front : List ℕ = head ++ (rows slots ++ zeros) in
    let none : List ℕ = [] in
    let long : length zeros ≡ 8192 - used slots = length-replicate (8192 - used slots) 0 in
    let count : length os ≡ length slots = length-offsets slots 96 in
    let size : length front ≡ 8192 - 2 * length slots =
    omega (arith, length-append head (rows slots ++ zeros), length-append (rows slots) zeros, length-header (length slots) (row_bytes slots), length-rows slots, long) in
    let image : head ++ (rows slots ++ (zeros ++ table os)) ≡ front ++ (table os ++ none) =
    ap (λ x. head ++ x) (sym (append_assoc (rows slots) zeros (table os))) ∙ sym (append_assoc head (rows slots ++ zeros) (table os)) ∙ ap (λ x. front ++ x) (sym (append-nil (table os))) in
    let at : 8190 ≡ length front + 2 * length os - 2 = omega arith in
    ap (λ x. offsets_at x 8190 (length slots)) image
    ∙ ap (λ k. offsets_at (front ++ (table os ++ none)) k (length slots)) at
    ∙ ap (λ k. offsets_at (front ++ (table os ++ none)) (length front + 2 * length os - 2) k) (sym count)
    ∙ offsets_at-table front none os

pub spelled_count : (slots : List (List ℕ)) → le16_at (spell slots) 0 ≡ length slots
unfolding spell
spelled_count slots = count-header (length slots) (row_bytes slots) _

pub spelled_bytes : (slots : List (List ℕ)) → le16_at (spell slots) 2 ≡ row_bytes slots
unfolding spell
spelled_bytes slots = bytes-header (length slots) (row_bytes slots) _

spelled_rows : (slots : List (List ℕ)) → slots_at (spell slots) (96 + row_bytes slots) (offsets 96 slots) ≡ slots
unfolding spell
spelled_rows slots = slots_at-spelled slots (header (length slots) (row_bytes slots)) (replicate (8192 - used slots) 0 ++ table (offsets 96 slots)) 96 (96 + row_bytes slots) (length-header (length slots) (row_bytes slots)) (omega arith) refl

-- what is spelled is read back
pub content-spell : (slots : List (List ℕ)) → used slots ≤ 8192 → content (spell slots) ≡ slots
unfolding content
content-spell slots small =
    let count : le16_at (spell slots) 0 ≡ length slots = spelled_count slots in
    let end : row_end (spell slots) ≡ 96 + row_bytes slots = ap (λ n. 96 + n) (spelled_bytes slots) in
    ap (λ n. slots_at (spell slots) (row_end (spell slots)) (offsets_at (spell slots) 8190 n)) count
    ∙ ap (λ os. slots_at (spell slots) (row_end (spell slots)) os) (offsets_at-spelled slots small)
    ∙ ap (λ n. slots_at (spell slots) n (offsets 96 slots)) end
    ∙ spelled_rows slots

pub length-spell : (slots : List (List ℕ)) → used slots ≤ 8192 → length (spell slots) ≡ 8192
unfolding spell
length-spell slots small =
    let head : List ℕ = header (length slots) (row_bytes slots) in
    let zeros : List ℕ = replicate (8192 - used slots) 0 in
    let t : List ℕ = table (offsets 96 slots) in
    let long : length zeros ≡ 8192 - used slots = length-replicate (8192 - used slots) 0 in
    omega (arith, length-append head (rows slots ++ (zeros ++ t)), length-append (rows slots) (zeros ++ t), length-append zeros t, length-header (length slots) (row_bytes slots), length-rows slots, long, length-table (offsets 96 slots), length-offsets slots 96)

pub page_count : (page : List ℕ) (slots : List (List ℕ)) → page ≡ spell slots → le16_at page 0 ≡ length slots
page_count page slots e = ap (λ p. le16_at p 0) e ∙ spelled_count slots

pub page_bytes : (page : List ℕ) (slots : List (List ℕ)) → page ≡ spell slots → le16_at page 2 ≡ row_bytes slots
page_bytes page slots e = ap (λ p. le16_at p 2) e ∙ spelled_bytes slots
