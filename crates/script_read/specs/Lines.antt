-- Which lines some bytes are.
use Rattle.std.specs.List.{list_all}
use Rattle.std.specs.Prelude.{ℕ, Bool, false, ◌==◌, ◌&&◌, not, if◌then◌else◌, List, [], ◌∷◌, ◌++◌, flat_map}

-- whether a line feed comes next
abbrev pub is_at_end : List ℕ → Bool
is_at_end [] = false
is_at_end (b ∷ bs) = b == 10

-- the bytes without each carriage return that stands just before a line feed
abbrev pub without_returns : List ℕ → List ℕ
without_returns [] = []
without_returns (b ∷ bs) = if b == 13 && is_at_end bs then without_returns bs else b ∷ without_returns bs

-- a byte that doesn't end a line
abbrev pub is_inside : ℕ → Bool
is_inside b = not (b == 10)

-- a line has no end within
abbrev pub is_whole : List ℕ → Bool
is_whole line = list_all is_inside line

-- a byte in front of the first line
abbrev pub before_first : ℕ → List (List ℕ) → List (List ℕ)
before_first b [] = (b ∷ []) ∷ []
before_first b (line ∷ lines) = (b ∷ line) ∷ lines

-- the lines of a text: each is ended by a line feed, and the last may lack it
abbrev pub lines_in : List ℕ → List (List ℕ)
lines_in [] = []
lines_in (b ∷ bs) = if b == 10 then [] ∷ lines_in bs else before_first b (lines_in bs)

-- the lines of a script's bytes
abbrev pub lines_of : List ℕ → List (List ℕ)
lines_of bytes = lines_in (without_returns bytes)

-- a line and its end
abbrev pub with_end : List ℕ → List ℕ
with_end line = line ++ 10 ∷ []

-- lines, each with its end
abbrev pub ended : List (List ℕ) → List ℕ
ended lines = flat_map with_end lines

-- an end and the line behind it
abbrev pub behind_end : List ℕ → List ℕ
behind_end line = 10 ∷ line

-- lines joined by line feeds
abbrev pub joined : List (List ℕ) → List ℕ
joined [] = []
joined (line ∷ lines) = line ++ flat_map behind_end lines
