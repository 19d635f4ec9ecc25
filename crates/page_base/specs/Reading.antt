-- Reading a value from the front of bytes.
use Rattle.std.specs.Prelude.{ℕ, zero, suc, List, [], ◌∷◌, Result, Ok, Err}

-- the value and the bytes after it, or the bytes from the first wrong field on
abbrev pub Read : Type 0 → Type 0
Read X = Result (X × List ℕ) (List ℕ)

-- what is read next stands behind what was read
infixl 10 ◌>>=◌
abbrev pub ◌>>=◌ : {A B : Type 0} → Read A → (A × List ℕ → Read B) → Read B
(Ok x) >>= f = f x
(Err rest) >>= f = Err rest

-- the bytes that are left in either case
abbrev pub left : {X : Type 0} → Read X → List ℕ
left (Ok x) = x.1
left (Err rest) = rest

-- so many values, one after the other
unfoldable pub times_at : {X : Type 0} → (List ℕ → Read X) → ℕ → List ℕ → Read (List X)
times_at read zero bytes = Ok ([], bytes)
times_at read (suc n) bytes = read bytes >>= λ x. times_at read n x.1 >>= λ xs. Ok (x.0 ∷ xs.0, xs.1)
