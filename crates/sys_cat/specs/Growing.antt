-- Columns that may be the first ones of a table definition.
use Rattle.std.specs.Prelude.{ℕ, ◌+◌, ◌==◌, ◌&&◌, nat_le, max, Bool, List, [], ◌∷◌, length, filter, map}
use Rattle.std.specs.List.{list_all, range_with_len}
use Rattle.page_base.specs.declared.column.Column.{Column}
use Rattle.plain_model.specs.Sound.{are_distinct, is_column}

-- how many columns have this place in the key
abbrev pub count_at : List Column → ℕ → ℕ
count_at cols place = length (filter (λ c. c.key == place) cols)

-- how many columns are in the key
abbrev pub key_size : List Column → ℕ
key_size cols = length (filter (λ c. nat_le 1 c.key) cols)

-- the last place in the key that a column has
abbrev pub top : List Column → ℕ
top [] = 0
top (c ∷ cs) = max c.key (top cs)

-- how many places the key will have at least
abbrev pub span : List Column → ℕ
span cols = max 1 (top cols)

-- each of the first n places is had once at most
abbrev pub are_once : List Column → ℕ → Bool
are_once cols n = list_all (λ place. nat_le (count_at cols place) 1) (range_with_len 1 n)

-- the names differ, and each column may stand in a table definition
abbrev pub names_fit : List Column → Bool
names_fit cols = are_distinct (map (λ c. c.name) cols) && list_all is_column cols

-- no place in the key is had twice, and the missing ones have room among the 64 columns
abbrev pub places_fit : List Column → Bool
places_fit cols = nat_le (span cols) 16 && (are_once cols (span cols) && nat_le (length cols + span cols) (64 + key_size cols))

-- nothing is wrong yet
abbrev pub can_grow : List Column → Bool
can_grow cols = names_fit cols && places_fit cols

-- no place is missing
abbrev pub is_whole : List Column → Bool
is_whole cols = key_size cols == span cols
