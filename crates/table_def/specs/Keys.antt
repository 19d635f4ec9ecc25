-- The PRIMARY KEYs of a definition.
use Rattle.std.specs.Prelude.{ℕ, ◌+◌, Bool, not, ◌==◌, List, [], ◌∷◌, length, map, filter, slice_index_or, option_map}
use Rattle.std.specs.List.{flat_map, position}
use Rattle.std.specs.Option.{unwrap_or}
use Rattle.std.specs.Str.{bytes_eq}
use Rattle.table_def.specs.declared.parts.TablePart.{TablePart}
use Rattle.table_def.specs.declared.parts.TablePart.TheVariants.{Column, Key}
use Rattle.table_def.specs.Options.{is_primary_key}

-- the PRIMARY KEYs that a part has, each as the names of its columns: the column's own name as often as PRIMARY KEY
-- stands behind its type, or the names in the brackets
abbrev pub keys_in : TablePart → List (List (List ℕ))
keys_in (Column c) = map (λ _. c.name ∷ []) (filter is_primary_key c.options)
keys_in (Key names) = names ∷ []

-- the PRIMARY KEYs of a definition
abbrev pub keys_of : List TablePart → List (List (List ℕ))
keys_of parts = flat_map keys_in parts

-- there is no PRIMARY KEY, or more than one
abbrev pub lacks_one_key : List TablePart → Bool
lacks_one_key parts = not (length (keys_of parts) == 1)

-- the names of the key's columns, in the key's order: those of the first PRIMARY KEY, which is the only one of a good
-- definition
abbrev pub key_of : List TablePart → List (List ℕ)
key_of parts = slice_index_or (keys_of parts) 0 []

-- the place of a name in the key, from 1; 0 where it isn't there
abbrev pub place_in : List (List ℕ) → List ℕ → ℕ
place_in key name = unwrap_or (option_map (λ i. i + 1) (position (bytes_eq name) key)) 0
