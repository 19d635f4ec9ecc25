-- The offsets of slots, one by one.
use Rattle.std.proofs.Common.{◌≡◌, ℕ, zero, suc, ◌+◌, ◌-◌, ◌*◌, ◌^◌, ◌<◌, ◌≤◌, min, cond, ◌==◌, List, [], ◌∷◌, ◌++◌, length, get_or, take, drop, map, refl, ap, sym, ◌∙◌, arith, false}
use Rattle.std.proofs.lemmas.Bool.{ne_eqb}
use Rattle.page_fmt.specs.Spelling.{row_bytes, offsets}
use Rattle.page_fmt.specs.Content.{le16_at, offsets_at}
use Rattle.page_fmt.specs.Places.{moved, offset_of, start_of}

pub row_bytes-append : (xs ys : List (List ℕ)) → row_bytes (xs ++ ys) ≡ row_bytes xs + row_bytes ys
row_bytes-append [] ys = omega arith
row_bytes-append (x ∷ xs) ys = omega (arith, row_bytes-append xs ys)

pub offsets-cons : (at : ℕ) (x : List ℕ) (xs : List (List ℕ)) → offsets at (x ∷ xs) ≡ offset_of at x ∷ offsets (at + length x) xs
offsets-cons at [] xs = let same : at ≡ at + 0 = omega arith in ap (λ n. 0 ∷ offsets n xs) same
offsets-cons at (b ∷ bs) xs = refl

pub offsets-append : (at : ℕ) (xs ys : List (List ℕ)) → offsets at (xs ++ ys) ≡ offsets at xs ++ offsets (at + row_bytes xs) ys
offsets-append at [] ys = let same : at ≡ at + 0 = omega arith in ap (λ n. offsets n ys) same
offsets-append at ([] ∷ xs) ys = let same : at + row_bytes xs ≡ at + (0 + row_bytes xs) = omega arith in ap (λ os. 0 ∷ os) (offsets-append at xs ys ∙ ap (λ n. offsets at xs ++ offsets n ys) same)
offsets-append at ((b ∷ bs) ∷ xs) ys =
    let same : at + length (b ∷ bs) + row_bytes xs ≡ at + (length (b ∷ bs) + row_bytes xs) = omega arith in
    ap (λ os. at ∷ os) (offsets-append (at + length (b ∷ bs)) xs ys ∙ ap (λ n. offsets (at + length (b ∷ bs)) xs ++ offsets n ys) same)

-- an offset that is read from the table
pub get_or-offsets_at : (image : List ℕ) (at n i : ℕ) → i < n → get_or (offsets_at image at n) i 0 ≡ le16_at image (at - 2 * i)
get_or-offsets_at image at zero i h = absurd (omega arith)
get_or-offsets_at image at (suc n) zero h = let same : at ≡ at - 2 * 0 = omega arith in ap (le16_at image) same
get_or-offsets_at image at (suc n) (suc i) h =
    let same : at - 2 - 2 * i ≡ at - 2 * suc i = omega arith in
    get_or-offsets_at image (at - 2) n i (omega arith) ∙ ap (le16_at image) same

pub drop-offsets_at : (image : List ℕ) (at n i : ℕ) → i ≤ n → drop i (offsets_at image at n) ≡ offsets_at image (at - 2 * i) (n - i)
drop-offsets_at image at n zero h = let same : at ≡ at - 2 * 0 = omega arith in let all : n ≡ n - 0 = omega arith in λ j. offsets_at image (same j) (all j)
drop-offsets_at image at zero (suc i) h = absurd (omega arith)
drop-offsets_at image at (suc n) (suc i) h =
    let same : at - 2 - 2 * i ≡ at - 2 * suc i = omega arith in
    let rest : n - i ≡ suc n - suc i = omega arith in
    drop-offsets_at image (at - 2) n i (omega arith) ∙ (λ j. offsets_at image (same j) (rest j))

pub get_or-offsets : (xs : List (List ℕ)) (at i : ℕ) → i < length xs → get_or (offsets at xs) i 0 ≡ offset_of (at + row_bytes (take i xs)) (get_or xs i [])
get_or-offsets [] at i h = absurd (omega arith)
get_or-offsets (x ∷ xs) at zero h = let same : at ≡ at + 0 = omega arith in ap (λ os. get_or os 0 0) (offsets-cons at x xs) ∙ ap (λ n. offset_of n x) same
get_or-offsets (x ∷ xs) at (suc i) h =
    let same : at + length x + row_bytes (take i xs) ≡ at + (length x + row_bytes (take i xs)) = omega arith in
    ap (λ os. get_or os (suc i) 0) (offsets-cons at x xs) ∙ get_or-offsets xs (at + length x) i (omega arith) ∙ ap (λ n. offset_of n (get_or xs i [])) same

pub drop-offsets : (xs : List (List ℕ)) (at i : ℕ) → i ≤ length xs → drop i (offsets at xs) ≡ offsets (at + row_bytes (take i xs)) (drop i xs)
drop-offsets xs at zero h = let same : at ≡ at + 0 = omega arith in ap (λ n. offsets n xs) same
drop-offsets [] at (suc i) h = absurd (omega arith)
drop-offsets (x ∷ xs) at (suc i) h =
    let same : at + length x + row_bytes (take i xs) ≡ at + (length x + row_bytes (take i xs)) = omega arith in
    ap (drop (suc i)) (offsets-cons at x xs) ∙ drop-offsets xs (at + length x) i (omega arith) ∙ ap (λ n. offsets n (drop i xs)) same

pub row_bytes-take : (xs : List (List ℕ)) (i : ℕ) → i < length xs → row_bytes (take (i + 1) xs) ≡ row_bytes (take i xs) + length (get_or xs i [])
row_bytes-take [] i h = absurd (omega arith)
row_bytes-take (x ∷ xs) zero h = omega arith
row_bytes-take (x ∷ xs) (suc i) h =
    let next : suc i + 1 ≡ suc (i + 1) = omega arith in
    ap (λ n. row_bytes (take n (x ∷ xs))) next ∙ omega (arith, row_bytes-take xs i (omega arith))

pub row_bytes-parts : (xs : List (List ℕ)) (i : ℕ) → row_bytes (take i xs) + row_bytes (drop i xs) ≡ row_bytes xs
row_bytes-parts xs zero = omega arith
row_bytes-parts [] (suc i) = refl
row_bytes-parts (x ∷ xs) (suc i) = omega (arith, row_bytes-parts xs i)

not_zero : (n : ℕ) → (suc n == 0) ≡ false
not_zero n = ne_eqb (suc n) 0 (omega arith)

-- a slot begins where its offset says, or where the next one does
pub begin_of : (at : ℕ) (x : List ℕ) → 0 < at → start_of (offset_of at x) (at + length x) ≡ at
begin_of at [] h = omega arith
begin_of zero (b ∷ bs) h = absurd (omega arith)
begin_of (suc at) (b ∷ bs) h = ap (λ z. cond z (suc at + length (b ∷ bs)) (suc at)) (not_zero at)

moved_suc : (old new o : ℕ) → old ≤ suc o → suc o + new < 2 ^ 16 → moved old new (suc o) ≡ suc o + new - old
moved_suc old new o order small = ap (λ z. cond z 0 (min (suc o + new) (2 ^ 16 - 1) - old)) (not_zero o) ∙ omega arith

-- offsets behind a slot whose length changed
pub map-moved : (xs : List (List ℕ)) (at old new : ℕ) → 0 < at → old ≤ at → at + row_bytes xs + new < 2 ^ 16 → map (moved old new) (offsets at xs) ≡ offsets (at + new - old) xs
map-moved [] at old new some order small = refl
map-moved ([] ∷ xs) at old new some order small = ap (λ os. 0 ∷ os) (map-moved xs at old new some order (omega arith))
map-moved ((b ∷ bs) ∷ xs) zero old new some order small = absurd (omega arith)
map-moved ((b ∷ bs) ∷ xs) (suc at) old new some order small =
    let here : moved old new (suc at) ≡ suc at + new - old = moved_suc old new at order (omega arith) in
    let next : suc at + length (b ∷ bs) + new - old ≡ suc at + new - old + length (b ∷ bs) = omega arith in
    let same : offsets (suc at + new - old) ((b ∷ bs) ∷ xs) ≡ (suc at + new - old) ∷ offsets (suc at + new - old + length (b ∷ bs)) xs = refl in
    (λ i. here i ∷ (map-moved xs (suc at + length (b ∷ bs)) old new (omega arith) (omega arith) (omega arith) ∙ ap (λ n. offsets n xs) next) i) ∙ sym same
