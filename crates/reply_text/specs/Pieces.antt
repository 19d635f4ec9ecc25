-- Words and values on a line: pieces between separators, where one within quotes separates nothing.
use Rattle.std.specs.Prelude.{ℕ, suc, ◌==◌, ◌&&◌, not, if◌then◌else◌, Bool, true, false, List, [], ◌∷◌, ◌++◌, length, take, drop, ◌-◌, Option, Some, None, flat_map}
use Rattle.std.specs.List.{onto_first}
use Rattle.std.specs.Str.{bytes_eq}

-- whether quotes are open behind a byte
abbrev pub quoted_behind : Bool → ℕ → Bool
quoted_behind inside b = if b == 39 then not inside else inside

-- whether a byte is a separator
abbrev pub parts_at : ℕ → Bool → ℕ → Bool
parts_at sep inside b = b == sep && not inside

-- the pieces of bytes before which quotes are open or not
abbrev pub pieces : ℕ → Bool → List ℕ → List (List ℕ)
pieces sep inside [] = [] ∷ []
pieces sep inside (b ∷ bs) = if parts_at sep inside b then [] ∷ pieces sep false bs else onto_first b (pieces sep (quoted_behind inside b) bs)

-- how long the first piece is
abbrev pub piece_len : ℕ → Bool → List ℕ → ℕ
piece_len sep inside [] = 0
piece_len sep inside (b ∷ bs) = if parts_at sep inside b then 0 else suc (piece_len sep (quoted_behind inside b) bs)

-- what stands behind the first byte, if there is one
abbrev pub behind_first : List ℕ → Option (List ℕ)
behind_first [] = None
behind_first (b ∷ bs) = Some bs

-- the pieces that are left, unless all were taken
abbrev pub pieces_of : ℕ → Option (List ℕ) → List (List ℕ)
pieces_of sep None = []
pieces_of sep (Some rest) = pieces sep false rest

-- a separator and the piece behind it
abbrev pub behind_separator : ℕ → List ℕ → List ℕ
behind_separator sep piece = sep ∷ piece

-- pieces with separators between them
abbrev pub parted : ℕ → List (List ℕ) → List ℕ
parted sep [] = []
parted sep (piece ∷ more) = piece ++ flat_map (behind_separator sep) more

-- the piece that is the only one
abbrev pub alone : List (List ℕ) → Option (List ℕ)
alone [] = None
alone (piece ∷ []) = Some piece
alone (piece ∷ next ∷ more) = None

-- what stands behind these bytes, if they stand in front
abbrev pub behind : List ℕ → List ℕ → Option (List ℕ)
behind front line = if bytes_eq (take (length front) line) front then Some (drop (length front) line) else None

-- what stands before these bytes, if they stand at the end
abbrev pub before : List ℕ → List ℕ → Option (List ℕ)
before end line = if bytes_eq (drop (length line - length end) line) end then Some (take (length line - length end) line) else None
