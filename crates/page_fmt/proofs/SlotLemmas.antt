-- Lists of slots of which one was set.
use Rattle.std.proofs.Common.{◌≡◌, ◌≢◌, ℕ, zero, suc, ◌+◌, ◌<◌, ◌≤◌, List, [], ◌∷◌, length, get_or, refl, ap, arith, max}
use Rattle.page_fmt.specs.Spelling.{row_bytes, LastIsFull}
use Rattle.page_fmt.specs.Edits.{set_slot}

pub length-set_slot : (xs : List (List ℕ)) (i : ℕ) (x : List ℕ) → length (set_slot xs i x) ≡ max (length xs) (i + 1)
length-set_slot [] zero x = refl
length-set_slot [] (suc i) x = omega (arith, length-set_slot [] i x)
length-set_slot (y ∷ ys) zero x = omega arith
length-set_slot (y ∷ ys) (suc i) x = omega (arith, length-set_slot ys i x)

pub row_bytes-set_slot : (xs : List (List ℕ)) (i : ℕ) (x : List ℕ) → row_bytes (set_slot xs i x) + length (get_or xs i []) ≡ row_bytes xs + length x
row_bytes-set_slot [] zero x = omega arith
row_bytes-set_slot [] (suc i) x = omega (arith, row_bytes-set_slot [] i x)
row_bytes-set_slot (y ∷ ys) zero x = omega arith
row_bytes-set_slot (y ∷ ys) (suc i) x = omega (arith, row_bytes-set_slot ys i x)

pub get_or-set_slot_same : (xs : List (List ℕ)) (i : ℕ) (x : List ℕ) → get_or (set_slot xs i x) i [] ≡ x
get_or-set_slot_same [] zero x = refl
get_or-set_slot_same [] (suc i) x = get_or-set_slot_same [] i x
get_or-set_slot_same (y ∷ ys) zero x = refl
get_or-set_slot_same (y ∷ ys) (suc i) x = get_or-set_slot_same ys i x

pub get_or-set_slot_other : (xs : List (List ℕ)) (i j : ℕ) (x : List ℕ) → j ≢ i → get_or (set_slot xs i x) j [] ≡ get_or xs j []
get_or-set_slot_other [] zero zero x h = absurd (h refl)
get_or-set_slot_other [] zero (suc j) x h = refl
get_or-set_slot_other [] (suc i) zero x h = refl
get_or-set_slot_other [] (suc i) (suc j) x h = get_or-set_slot_other [] i j x (λ e. h (ap suc e))
get_or-set_slot_other (y ∷ ys) zero zero x h = absurd (h refl)
get_or-set_slot_other (y ∷ ys) zero (suc j) x h = refl
get_or-set_slot_other (y ∷ ys) (suc i) zero x h = refl
get_or-set_slot_other (y ∷ ys) (suc i) (suc j) x h = get_or-set_slot_other ys i j x (λ e. h (ap suc e))

last_cons : (y : List ℕ) (zs : List (List ℕ)) → 0 < length zs → LastIsFull zs → LastIsFull (y ∷ zs)
last_cons y [] h l = absurd (omega arith)
last_cons y (z ∷ zs) h l = l

last_rest : (y : List ℕ) (ys : List (List ℕ)) → LastIsFull (y ∷ ys) → LastIsFull ys
last_rest y [] l = tt
last_rest y (z ∷ zs) l = l

pub LastIsFull-set_slot : (xs : List (List ℕ)) (i : ℕ) (x : List ℕ) → x ≢ [] → LastIsFull xs → LastIsFull (set_slot xs i x)
LastIsFull-set_slot [] zero x h l = h
LastIsFull-set_slot [] (suc i) x h l = last_cons [] (set_slot [] i x) (omega (arith, length-set_slot [] i x)) (LastIsFull-set_slot [] i x h tt)
LastIsFull-set_slot (y ∷ []) zero x h l = h
LastIsFull-set_slot (y ∷ z ∷ zs) zero x h l = l
LastIsFull-set_slot (y ∷ ys) (suc i) x h l = last_cons y (set_slot ys i x) (omega (arith, length-set_slot ys i x)) (LastIsFull-set_slot ys i x h (last_rest y ys l))

pub row_bytes-slot : (xs : List (List ℕ)) (i : ℕ) → length (get_or xs i []) ≤ row_bytes xs
row_bytes-slot [] i = omega arith
row_bytes-slot (y ∷ ys) zero = omega arith
row_bytes-slot (y ∷ ys) (suc i) = omega (arith, row_bytes-slot ys i)
