-- The lines of some bytes.
use Rattle.std.specs.Prelude.{ℕ, suc, ◌==◌, not, if◌then◌else◌, Bool, List, [], ◌∷◌}
use Rattle.std.specs.List.{onto_first}

-- each line with its line feed; what stands behind the last one is a line, too, unless nothing does
abbrev pub lines_of : List ℕ → List (List ℕ)
lines_of [] = []
lines_of (b ∷ bs) = if b == 10 then (b ∷ []) ∷ lines_of bs else onto_first b (lines_of bs)

-- how long the first line is, with its end
abbrev pub line_len : List ℕ → ℕ
line_len [] = 0
line_len (b ∷ bs) = if b == 10 then 1 else suc (line_len bs)
