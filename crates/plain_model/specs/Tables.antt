-- Whole tables, and what changes them.
use Rattle.std.specs.Prelude.{◌≡◌, ℕ, nat_le, length, List, [], ◌∷◌, Option, Some, None, map, filter, ◌==◌, if◌then◌else◌}
use Rattle.std.specs.List.{range_with_len}
use Rattle.std.specs.Ordering.{nat_cmp}
use Rattle.std.specs.Cmp.Lexicographic.{slice_cmp}
use Rattle.std.specs.FinMap as finite
use Rattle.page_base.specs.declared.column.Column.{Column}
use Rattle.page_base.specs.declared.value.Value.{Value}
use Rattle.page_base.specs.declared.value.Value.TheVariants.{Null}
use Rattle.page_base.specs.Order.{key_cmp}

-- rows by their keys: they stand in ascending order of keys, and no key stands twice
abbrev pub Rows : Type 0
Rows = finite.FinMap key_cmp (List Value)

-- a table is its columns and its rows
pub record Table : Type 0 where
  pub cols : List Column
  pub rows : Rows

-- tables by their names
abbrev pub Tables : Type 0
Tables = finite.FinMap (slice_cmp nat_cmp) Table

-- the rows of a table, in ascending order of keys
abbrev pub rows_of : Table → List (List Value)
rows_of t = finite.values t.rows

-- the value in the column that has this place in the key
abbrev pub key_cell : List Column → List Value → ℕ → Value
key_cell (c ∷ cs) (v ∷ vs) place = if c.key == place then v else key_cell cs vs place
key_cell cs row place = Null

-- how many columns the key has
abbrev pub key_size : List Column → ℕ
key_size cols = length (filter (λ c. nat_le 1 c.key) cols)

-- the key of a row: its values in the columns of the key, in the key's order
abbrev pub key_of : List Column → List Value → List Value
key_of cols row = map (key_cell cols row) (range_with_len 1 (key_size cols))

-- each row of the table stands by its own key
pub record IsKeyed (t : Table) : Type 0 where
  pub at : (key row : List Value) → finite.get t.rows key ≡ Some row → key ≡ key_of t.cols row

-- these columns and these rows, in ascending order of keys and each by its own key, are the table
pub record IsTable (cols : List Column) (rows : List (List Value)) (t : Table) : Type 0 where
  pub columns : t.cols ≡ cols
  pub values : rows_of t ≡ rows
  pub keys : finite.keys t.rows ≡ map (key_of cols) rows

-- one change: a row is put in place of the one of its key, a key's row is cut, a table is added or removed
pub data Change : Type 0 where
  Put : (table : List ℕ) (row : List Value) → Change
  Cut : (table : List ℕ) (key : List Value) → Change
  Add : (table : List ℕ) (cols : List Column) → Change
  Remove : (table : List ℕ) → Change

abbrev pub with_row : List Value → Table → Table
with_row row t = record t { rows = finite.insert t.rows (key_of t.cols row) row }

abbrev pub without_key : List Value → Table → Table
without_key key t = record t { rows = finite.remove t.rows key }

-- the tables with one of them changed, where it is there
abbrev pub changed : Tables → List ℕ → Option Table → (Table → Table) → Tables
changed tables name None f = tables
changed tables name (Some t) f = finite.insert tables name (f t)

-- the tables after one change
abbrev pub applied : Change → Tables → Tables
applied (Put table row) tables = changed tables table (finite.get tables table) (with_row row)
applied (Cut table key) tables = changed tables table (finite.get tables table) (without_key key)
applied (Add table cols) tables = finite.insert tables table (record { cols = cols; rows = finite.empty })
applied (Remove table) tables = finite.remove tables table

-- the tables after all changes, done in order
abbrev pub apply : List Change → Tables → Tables
apply [] tables = tables
apply (change ∷ changes) tables = apply changes (applied change tables)
