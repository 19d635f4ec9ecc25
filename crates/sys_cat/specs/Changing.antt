-- Lists of tables with one more and with one less, and the rows of table 0 by their keys.
use Rattle.std.specs.Prelude.{ℕ, pos, ◌≡◌, ◌+◌, not, Bool, if◌then◌else◌, List, [], ◌∷◌, filter, map}
use Rattle.std.specs.FinMap as finite
use Rattle.std.specs.List.{list_any}
use Rattle.std.specs.Ordering.{nat_cmp, is_lt}
use Rattle.std.specs.Cmp.Lexicographic.{slice_cmp}
use Rattle.std.specs.Str.{bytes_eq}
use Rattle.page_base.specs.declared.column.Column.{Column}
use Rattle.page_base.specs.declared.value.Value.{Value}
use Rattle.page_base.specs.declared.value.Value.TheVariants.{Int, Text}
use Rattle.plain_model.specs.Tables.{Rows, key_of}
use Rattle.sys_cat.specs.declared.desc.TableDesc.{TableDesc}
use Rattle.sys_cat.specs.Rows.{table_0}

-- a table has this name
abbrev pub has_name : List TableDesc → List ℕ → Bool
has_name ds name = list_any (λ d. bytes_eq d.name name) ds

-- the tables and one more, in order of names
abbrev pub with_desc : List TableDesc → TableDesc → List TableDesc
with_desc [] d = d ∷ []
with_desc (e ∷ es) d = if is_lt (slice_cmp nat_cmp e.name d.name) then e ∷ with_desc es d else d ∷ e ∷ es

-- the tables without the one of this name
abbrev pub without_desc : List TableDesc → List ℕ → List TableDesc
without_desc ds name = filter (λ d. not (bytes_eq d.name name)) ds

-- the key of a row of table 0
abbrev pub row_key : List ℕ → ℕ → List Value
row_key name ord = Text name ∷ Int (pos ord) ∷ []

-- the keys of the rows of columns, the first of this ordinal
abbrev pub column_keys : List ℕ → ℕ → List Column → List (List Value)
column_keys name ord [] = []
column_keys name ord (c ∷ cs) = row_key name ord ∷ column_keys name (ord + 1) cs

-- the keys of all rows of a table
abbrev pub keys_of : TableDesc → List (List Value)
keys_of d = row_key d.name 0 ∷ column_keys d.name 1 d.cols

-- each row of table 0 stands by its own key
abbrev pub AreKeyed : Rows → Type 0
AreKeyed rows = finite.keys rows ≡ map (key_of table_0) (finite.values rows)
