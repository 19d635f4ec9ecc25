-- What makes a definition a bad one, each cause by itself.
use Rattle.std.specs.Prelude.{ℕ, Bool, not, nat_le, ◌&&◌, ◌||◌, List, length}
use Rattle.std.specs.List.{list_any}
use Rattle.plain_model.specs.Sound.{are_distinct}
use Rattle.table_def.specs.declared.parts.ColumnPart.{ColumnPart}
use Rattle.table_def.specs.declared.parts.TablePart.{TablePart}
use Rattle.table_def.specs.Parts.{written, names_in, is_among}
use Rattle.table_def.specs.Options.{says_null, says_not_null}
use Rattle.table_def.specs.Kinds.{has_length}
use Rattle.table_def.specs.Keys.{lacks_one_key, key_of}

-- the name of a column stands twice
abbrev pub has_name_twice : List ColumnPart → Bool
has_name_twice columns = not (are_distinct (names_in columns))

-- a column is declared NULL and NOT NULL
abbrev pub contradicts : ColumnPart → Bool
contradicts c = says_null c && says_not_null c

-- one of the columns is declared NULL and NOT NULL
abbrev pub has_contradiction : List ColumnPart → Bool
has_contradiction columns = list_any contradicts columns

-- a column is a VARCHAR whose length isn't one of 1 to 8,000
abbrev pub is_bad_length : ColumnPart → Bool
is_bad_length c = not (has_length c.kind)

-- one of the columns is such a VARCHAR
abbrev pub has_bad_length : List ColumnPart → Bool
has_bad_length columns = list_any is_bad_length columns

-- the key has more than 16 columns, or none, as can't be written
abbrev pub has_wrong_size : List (List ℕ) → Bool
has_wrong_size key = not (nat_le 1 (length key) && nat_le (length key) 16)

-- a column stands twice in the key
abbrev pub has_key_twice : List (List ℕ) → Bool
has_key_twice key = not (are_distinct key)

-- a name of the key is that of no column
abbrev pub has_unknown : List (List ℕ) → List (List ℕ) → Bool
has_unknown key names = list_any (λ name. not (is_among names name)) key

-- a column of the key is declared NULL
abbrev pub is_null_key : List (List ℕ) → ColumnPart → Bool
is_null_key key c = says_null c && is_among key c.name

-- one of the columns is in the key and declared NULL
abbrev pub has_null_key : List (List ℕ) → List ColumnPart → Bool
has_null_key key columns = list_any (is_null_key key) columns

-- columns that can't have this key
abbrev pub is_bad_key : List (List ℕ) → List ColumnPart → Bool
is_bad_key key columns =
    has_wrong_size key || (has_key_twice key || (has_unknown key (names_in columns) || has_null_key key columns))

-- columns that no key makes good
abbrev pub are_bad_columns : List ColumnPart → Bool
are_bad_columns columns = has_name_twice columns || (has_contradiction columns || has_bad_length columns)

-- a definition is a bad one by its PRIMARY KEYs, by its key beside its columns, or by its columns
abbrev pub is_bad : List TablePart → Bool
is_bad parts = lacks_one_key parts || (is_bad_key (key_of parts) (written parts) || are_bad_columns (written parts))
