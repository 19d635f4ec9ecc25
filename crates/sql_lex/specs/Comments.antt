-- Comments between `/*` and `*/`, which nest.
use Rattle.std.specs.Prelude.{ℕ, zero, suc, ◌+◌, ◌≡◌, Bool, false, ◌==◌, ◌&&◌, ◌||◌, not, if◌then◌else◌, List, [], ◌∷◌, ◌++◌, Option, Some, None}

-- a byte of a comment that goes to the line's end
abbrev pub is_in_line : ℕ → Bool
is_in_line b = not (b == 10)

-- the two bytes open a comment, or close one
abbrev pub turns : ℕ → ℕ → Bool
turns b c = (b == 47 && c == 42) || (b == 42 && c == 47)

-- Of so many comments that are open, these bytes close each, the last with their last byte. From the left, a `/*` opens one
-- more and a `*/` closes one.
pub data Closes : ℕ → List ℕ → Type 0 where
  over : Closes 0 []
  opens : (depth : ℕ) (more : List ℕ) → Closes (suc (suc depth)) more → Closes (suc depth) (47 ∷ 42 ∷ more)
  closes : (depth : ℕ) (more : List ℕ) → Closes depth more → Closes (suc depth) (42 ∷ 47 ∷ more)
  stays : (depth b c : ℕ) (more : List ℕ) → turns b c ≡ false → Closes (suc depth) (c ∷ more) → Closes (suc depth) (b ∷ c ∷ more)

-- no bytes in front close the comment that is open
abbrev pub IsOpen : List ℕ → Type 0
IsOpen bytes = (front rest : List ℕ) → Closes 1 front → bytes ≡ front ++ rest → ⊥

-- behind a `*/`, so many bytes on, where so many comments were open around the one that it closes
abbrev pub after_close : ℕ → ℕ → (ℕ → Option ℕ) → Option ℕ
after_close zero n go = Some n
after_close (suc around) n go = go around

-- Where a comment ends, so many bytes on, which so many open ones stand around; None where it isn't closed. The byte before
-- these may belong to a `/*` or `*/` with the first of them.
abbrev pub comment_end : ℕ → ℕ → ℕ → List ℕ → Option ℕ
comment_end before around n [] = None
comment_end before around n (b ∷ bs) =
    if before == 47 && b == 42 then comment_end 0 (suc around) (n + 1) bs
    else (if before == 42 && b == 47 then after_close around (n + 1) (λ outer. comment_end 0 outer (n + 1) bs)
    else comment_end b around (n + 1) bs)
