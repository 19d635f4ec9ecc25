-- Empty slots behind the others: they take two bytes each, of what were zeros.
use Rattle.std.proofs.Common.{◌≡◌, ◌≢◌, ℕ, zero, suc, ◌+◌, ◌-◌, ◌*◌, ◌<◌, ◌≤◌, List, [], ◌∷◌, ◌++◌, length, get_or, take, set, replicate, refl, ap, sym, ◌∙◌, arith, append_assoc, length-append}
use Rattle.std.proofs.lemmas.List.{append-nil, length-replicate, length-take, replicate-append-replicate, take_more}
use Rattle.page_fmt.specs.Spelling.{le16, rows, row_bytes, offsets, table, used, header, spell, LastIsFull}
use Rattle.page_fmt.specs.Edits.{set_slot, before, trimmed}
use Rattle.page_fmt.specs.Places.{zeros, put}
use Rattle.page_fmt.proofs.OffsetLemmas.{row_bytes-append, offsets-append}
use Rattle.page_fmt.proofs.MovingLemmas.{table-append}
use Rattle.page_fmt.proofs.ReplaceLemmas.{rows-append}

-- so many empty slots
abbrev pub empties : ℕ → List (List ℕ)
empties n = replicate n []

rows-empties : (n : ℕ) → rows (empties n) ≡ []
rows-empties zero = refl
rows-empties (suc n) = rows-empties n

row_bytes-empties : (n : ℕ) → row_bytes (empties n) ≡ 0
row_bytes-empties zero = refl
row_bytes-empties (suc n) = omega (arith, row_bytes-empties n)

table-empties : (n at : ℕ) → table (offsets at (empties n)) ≡ zeros (2 * n)
table-empties zero at = refl
table-empties (suc n) at =
    let more : 2 * n + 2 ≡ 2 * suc n = omega arith in
    ap (λ t. t ++ le16 0) (table-empties n at) ∙ replicate-append-replicate (2 * n) 2 0 ∙ ap zeros more

-- what stands behind the header
pub body : List (List ℕ) → List ℕ
body slots = rows slots ++ (zeros (8192 - used slots) ++ table (offsets 96 slots))

pub used-empties : (xs : List (List ℕ)) (k : ℕ) → used (xs ++ empties k) ≡ used xs + 2 * k
used-empties xs k =
    let long : length (empties k) ≡ k = length-replicate {A = List ℕ} k [] in
    omega (arith, row_bytes-append xs (empties k), row_bytes-empties k, length-append xs (empties k))

pub body-empties : (xs : List (List ℕ)) (k : ℕ) → used xs + 2 * k ≤ 8192 → body (xs ++ empties k) ≡ body xs
unfolding body
body-empties xs k small =
    let rows_are : rows (xs ++ empties k) ≡ rows xs = rows-append xs (empties k) ∙ ap (λ r. rows xs ++ r) (rows-empties k) ∙ append-nil (rows xs) in
    let t : List ℕ = table (offsets 96 xs) in
    let table_is : table (offsets 96 (xs ++ empties k)) ≡ zeros (2 * k) ++ t =
    ap table (offsets-append 96 xs (empties k)) ∙ table-append (offsets 96 xs) (offsets (96 + row_bytes xs) (empties k)) ∙ ap (λ e. e ++ t) (table-empties k (96 + row_bytes xs)) in
    let free : ℕ = 8192 - used (xs ++ empties k) in
    let free_is : free + 2 * k ≡ 8192 - used xs = omega (arith, used-empties xs k) in
    let joined : zeros free ++ (zeros (2 * k) ++ t) ≡ zeros (8192 - used xs) ++ t =
    sym (append_assoc (zeros free) (zeros (2 * k)) t) ∙ ap (λ z. z ++ t) (replicate-append-replicate free (2 * k) 0 ∙ ap zeros free_is) in
    (λ i. rows_are i ++ (zeros free ++ table_is i)) ∙ (λ i. rows xs ++ joined i)

pub spell-body : (xs : List (List ℕ)) → spell xs ≡ header (length xs) (row_bytes xs) ++ body xs
unfolding spell body
spell-body xs = refl

pub put-count : (n r m : ℕ) (rest : List ℕ) → put 0 (le16 m) (header n r ++ rest) ≡ header m r ++ rest
unfolding header
put-count n r m rest = refl

-- the number of slots counts so many empty ones more, or less
pub counted_more : (xs : List (List ℕ)) (k n : ℕ) → used xs + 2 * k ≤ 8192 → n ≡ length xs + k → put 0 (le16 n) (spell xs) ≡ spell (xs ++ empties k)
counted_more xs k n small is =
    let count : n ≡ length (xs ++ empties k) = is ∙ omega (arith, length-append xs (empties k), length-replicate {A = List ℕ} k []) in
    let bytes : row_bytes xs ≡ row_bytes (xs ++ empties k) = omega (arith, row_bytes-append xs (empties k), row_bytes-empties k) in
    ap (put 0 (le16 n)) (spell-body xs) ∙ put-count (length xs) (row_bytes xs) n (body xs)
    ∙ (λ i. header (count i) (bytes i) ++ sym (body-empties xs k small) i) ∙ sym (spell-body (xs ++ empties k))

pub counted_less : (xs : List (List ℕ)) (k : ℕ) → used xs + 2 * k ≤ 8192 → put 0 (le16 (length xs)) (spell (xs ++ empties k)) ≡ spell xs
counted_less xs k small =
    ap (put 0 (le16 (length xs))) (spell-body (xs ++ empties k))
    ∙ put-count (length (xs ++ empties k)) (row_bytes (xs ++ empties k)) (length xs) (body (xs ++ empties k))
    ∙ (λ i. header (length xs) (bytes i) ++ body-empties xs k small i) ∙ sym (spell-body xs)
  where
    bytes : row_bytes (xs ++ empties k) ≡ row_bytes xs
    bytes = omega (arith, row_bytes-append xs (empties k), row_bytes-empties k)

-- a slot that is set behind empty ones
pub set-empties : (xs : List (List ℕ)) (i : ℕ) (x : List ℕ) → set (xs ++ empties (i + 1 - length xs)) i x ≡ set_slot xs i x
set-empties [] zero x = refl
set-empties [] (suc i) x =
    let many : suc i + 1 - 0 ≡ suc (i + 1 - 0) = omega arith in
    ap (λ n. set (empties n) (suc i) x) many ∙ ap (λ l. [] ∷ l) (set-empties [] i x)
set-empties (y ∷ ys) zero x =
    let none : 0 + 1 - suc (length ys) ≡ 0 = omega arith in
    ap (λ n. x ∷ (ys ++ empties n)) none ∙ ap (λ l. x ∷ l) (append-nil ys)
set-empties (y ∷ ys) (suc i) x =
    let many : suc i + 1 - suc (length ys) ≡ i + 1 - length ys = omega arith in
    ap (λ n. y ∷ set (ys ++ empties n) i x) many ∙ ap (λ l. y ∷ l) (set-empties ys i x)

-- TRIMMED LISTS

before-cases : (x : List ℕ) (xs : List (List ℕ)) → 0 < length xs → before x xs ≡ x ∷ xs
before-cases x [] h = absurd (omega arith)
before-cases [] (y ∷ ys) h = refl
before-cases (b ∷ bs) (y ∷ ys) h = refl

before-full : (b : ℕ) (bs : List ℕ) (xs : List (List ℕ)) → before (b ∷ bs) xs ≡ (b ∷ bs) ∷ xs
before-full b bs [] = refl
before-full b bs (y ∷ ys) = refl

pub length-trimmed : (xs : List (List ℕ)) → length (trimmed xs) ≤ length xs
length-trimmed [] = omega arith
length-trimmed (x ∷ xs) = omega (arith, length-before x (trimmed xs), length-trimmed xs)
  where
    length-before : (x : List ℕ) (xs : List (List ℕ)) → length (before x xs) ≤ suc (length xs)
    length-before [] [] = omega arith
    length-before [] (y ∷ ys) = omega arith
    length-before (b ∷ bs) [] = omega arith
    length-before (b ∷ bs) (y ∷ ys) = omega arith

parts_before : (x : List ℕ) (ts xs : List (List ℕ)) → ts ++ empties (length xs - length ts) ≡ xs → before x ts ++ empties (suc (length xs) - length (before x ts)) ≡ x ∷ xs
parts_before [] [] xs e = let n : suc (length xs) - 0 ≡ suc (length xs - 0) = omega arith in ap empties n ∙ ap (λ l. [] ∷ l) e
parts_before [] (y ∷ ys) xs e = let n : suc (length xs) - suc (suc (length ys)) ≡ length xs - suc (length ys) = omega arith in ap (λ k. [] ∷ ((y ∷ ys) ++ empties k)) n ∙ ap (λ l. [] ∷ l) e
parts_before (b ∷ bs) [] xs e = let n : suc (length xs) - 1 ≡ length xs - 0 = omega arith in ap (λ k. (b ∷ bs) ∷ empties k) n ∙ ap (λ l. (b ∷ bs) ∷ l) e
parts_before (b ∷ bs) (y ∷ ys) xs e = let n : suc (length xs) - suc (suc (length ys)) ≡ length xs - suc (length ys) = omega arith in ap (λ k. (b ∷ bs) ∷ ((y ∷ ys) ++ empties k)) n ∙ ap (λ l. (b ∷ bs) ∷ l) e

-- what was cut are empty slots
pub trimmed-parts : (xs : List (List ℕ)) → trimmed xs ++ empties (length xs - length (trimmed xs)) ≡ xs
trimmed-parts [] = refl
trimmed-parts (x ∷ xs) = parts_before x (trimmed xs) xs (trimmed-parts xs)

last_before : (x : List ℕ) (ts : List (List ℕ)) → LastIsFull ts → LastIsFull (before x ts)
last_before [] [] h = tt
last_before [] (y ∷ ys) h = h
last_before (b ∷ bs) [] h = λ e. cc
last_before (b ∷ bs) (y ∷ ys) h = h

pub LastIsFull-trimmed : (xs : List (List ℕ)) → LastIsFull (trimmed xs)
LastIsFull-trimmed [] = tt
LastIsFull-trimmed (x ∷ xs) = last_before x (trimmed xs) (LastIsFull-trimmed xs)

full_before : (x : List ℕ) → x ≢ [] → before x [] ≡ x ∷ []
full_before [] h = absurd (h refl)
full_before (b ∷ bs) h = refl

-- nothing is cut where the last slot isn't empty
pub trimmed-full : (xs : List (List ℕ)) → LastIsFull xs → trimmed xs ≡ xs
trimmed-full [] h = refl
trimmed-full (x ∷ []) h = full_before x h
trimmed-full (x ∷ y ∷ ys) h = ap (before x) (trimmed-full (y ∷ ys) h) ∙ before-cases x (y ∷ ys) (omega arith)

pub trimmed-push : (xs : List (List ℕ)) → trimmed (xs ++ [] ∷ []) ≡ trimmed xs
trimmed-push [] = refl
trimmed-push (x ∷ xs) = ap (before x) (trimmed-push xs)

pub last_push : (xs : List (List ℕ)) (x : List ℕ) → x ≢ [] → LastIsFull (xs ++ x ∷ [])
last_push [] x h = h
last_push (y ∷ []) x h = h
last_push (y ∷ z ∷ zs) x h = last_push (z ∷ zs) x h

pub used-trimmed : (xs : List (List ℕ)) → used (trimmed xs) + 2 * (length xs - length (trimmed xs)) ≡ used xs
used-trimmed xs = sym (used-empties (trimmed xs) (length xs - length (trimmed xs))) ∙ ap used (trimmed-parts xs)

-- the walk from the last slot to the last one that isn't empty
pub cut_step : (xs : List (List ℕ)) (i count n : ℕ) → count ≡ i + 1 → i < length xs → get_or xs i [] ≡ [] → length (trimmed (take count xs)) ≡ n → length (trimmed (take i xs)) ≡ n
cut_step xs i count n e lt none h =
    let more : take count xs ≡ take i xs ++ [] ∷ [] = ap (λ k. take k xs) e ∙ take_more xs i [] lt ∙ ap (λ x. take i xs ++ x ∷ []) none in
    sym (ap (λ l. length (trimmed l)) more ∙ ap length (trimmed-push (take i xs))) ∙ h

pub cut_end : (xs : List (List ℕ)) (i count n : ℕ) → count ≡ i + 1 → i < length xs → get_or xs i [] ≢ [] → length (trimmed (take count xs)) ≡ n → count ≡ n
cut_end xs i count n e lt full h =
    let more : take count xs ≡ take i xs ++ get_or xs i [] ∷ [] = ap (λ k. take k xs) e ∙ take_more xs i [] lt in
    let whole : trimmed (take count xs) ≡ take count xs = ap trimmed more ∙ trimmed-full (take i xs ++ get_or xs i [] ∷ []) (last_push (take i xs) (get_or xs i []) full) ∙ sym more in
    omega (arith, ap length whole, length-take count xs)
