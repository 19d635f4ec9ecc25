-- One row, line or update more.
use Rattle.std.proofs.Common.{◌≡◌, ℕ, zero, suc, ◌+◌, List, [], ◌∷◌, ◌++◌, refl, sym, ap, ◌∙◌, arith, append_assoc, append-nil}
use Rattle.std.specs.List.{flat_map, range_with_len}
use Rattle.load_gen.specs.declared.table.Table.{Table}
use Rattle.load_gen.specs.Rows.{next_row_text, more_rows, line_text, lines_text}
use Rattle.load_gen.specs.Script.{update_text, updates_text}

-- texts over one number more
flat_more : (f : ℕ → List ℕ) (a n m : ℕ) → a + n ≡ m → flat_map f (range_with_len a (suc n)) ≡ flat_map f (range_with_len a n) ++ f m
flat_more f a zero m e = let same : a ≡ m = omega (arith, e) in rw same (append-nil (f m))
flat_more f a (suc n) m e =
    let next : (a + 1) + n ≡ m = omega (arith, e) in
    ap (λ (xs : List ℕ). f a ++ xs) (flat_more f (a + 1) n m next) ∙ sym (append_assoc (f a) (flat_map f (range_with_len (a + 1) n)) (f m))

at_one : (f : ℕ → List ℕ) (a n m : ℕ) → a + n ≡ m → flat_map f (range_with_len a (n + 1)) ≡ flat_map f (range_with_len a n) ++ f m
at_one f a n m e = let same : n + 1 ≡ suc n = omega arith in rw same (flat_more f a n m e)

pub rows_none : (t : Table) (seed first : ℕ) → more_rows t seed first 0 ≡ []
unfolding more_rows
rows_none t seed first = refl

pub rows_more : (t : Table) (seed first n id : ℕ) → first + n ≡ id → more_rows t seed first (n + 1) ≡ more_rows t seed first n ++ next_row_text t seed id
unfolding more_rows
rows_more t seed first n id e = at_one (next_row_text t seed) first n id e

pub lines_none : (t : Table) (seed : ℕ) → lines_text t seed 0 ≡ []
unfolding lines_text
lines_none t seed = refl

pub lines_more : (t : Table) (seed n : ℕ) → lines_text t seed (n + 1) ≡ lines_text t seed n ++ line_text t seed n
unfolding lines_text
lines_more t seed n = at_one (line_text t seed) 0 n n (omega arith)

pub updates_none : (seed : ℕ) → updates_text seed 0 ≡ []
unfolding updates_text
updates_none seed = refl

pub updates_more : (seed n k : ℕ) → 1 + n ≡ k → updates_text seed (n + 1) ≡ updates_text seed n ++ update_text seed k
unfolding updates_text
updates_more seed n k e = at_one (update_text seed) 1 n k e

-- a piece more behind what a text had
pub grown : (old mid new done piece next : List ℕ) → mid ≡ old ++ done → new ≡ mid ++ piece → next ≡ done ++ piece → new ≡ old ++ next
grown old mid new done piece next p q r = q ∙ ap (λ (xs : List ℕ). xs ++ piece) p ∙ append_assoc old done piece ∙ ap (λ (xs : List ℕ). old ++ xs) (sym r)

pub not_grown : (old next : List ℕ) → next ≡ [] → old ≡ old ++ next
not_grown old next e = sym (ap (λ (xs : List ℕ). old ++ xs) e ∙ append-nil old)

-- a comma and a piece
pub behind_comma : (mid comma new piece : List ℕ) → comma ≡ mid ++ 44 ∷ [] → new ≡ comma ++ piece → new ≡ mid ++ (44 ∷ piece)
behind_comma mid comma new piece p q = q ∙ ap (λ (xs : List ℕ). xs ++ piece) p ∙ append_assoc mid (44 ∷ []) piece
