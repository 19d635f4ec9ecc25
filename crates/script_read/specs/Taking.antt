-- How a batch is taken off the lines that are left.
use Rattle.std.specs.Prelude.{ℕ, ◌+◌, ◌≡◌, Bool, true, false, not, if◌then◌else◌, List, [], ◌∷◌, ◌++◌, length, Option, Some, None}
use Rattle.std.specs.List.{list_all}
use Rattle.script_read.specs.Lines.{joined}
use Rattle.script_read.specs.Classes.{is_text, ends_batch}

-- a line that doesn't end a batch
abbrev pub is_inner : List ℕ → Bool
is_inner line = not (ends_batch line)

-- whether the first line is there, and doesn't end a batch
abbrev pub first_is_inner : List (List ℕ) → Bool
first_is_inner [] = false
first_is_inner (line ∷ lines) = is_inner line

-- the first bad line so far, where another one follows
abbrev pub noted : Option ℕ → ℕ → List ℕ → Option ℕ
noted (Some found) number line = Some found
noted None number line = if is_text line then None else Some number

-- the first bad line of lines of which the first is numbered so, where one may be known
abbrev pub first_bad : Option ℕ → ℕ → List (List ℕ) → Option ℕ
first_bad bad number [] = bad
first_bad bad number (line ∷ lines) = first_bad (noted bad number line) (number + 1) lines

-- the lines of a batch were taken: its bytes, the number of its first line, and that of its first bad one
pub record TakesBatch (bytes : List ℕ) (line : ℕ) (bad : Option ℕ) (number : ℕ) (old : List (List ℕ)) (next : ℕ) (new : List (List ℕ)) : Type 0 where
  pub lines : List (List ℕ)
  pub split : old ≡ lines ++ new
  pub inner : list_all is_inner lines ≡ true
  pub stops : first_is_inner new ≡ false
  pub bytes_are : bytes ≡ joined lines
  pub line_is : line ≡ number
  pub bad_is : bad ≡ first_bad None number lines
  pub next_is : next ≡ number + length lines
