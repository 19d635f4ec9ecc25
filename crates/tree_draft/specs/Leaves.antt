-- The slots of a leaf in memory.
use Rattle.std.specs.Prelude.{true, false, ◌≡◌, ◌≢◌, ◌<◌, ◌≤◌, None, ℕ, List, length, slice_index_or}
use Rattle.std.specs.Ordering.{is_le}
use Rattle.page_base.specs.declared.column.Column.{Column}
use Rattle.page_base.specs.declared.value.Value.{Value}
use Rattle.page_base.specs.Order.{key_cmp}
use Rattle.plain_model.specs.Tables.{key_of}
use Rattle.table_walk.specs.Leaves.{Leaf}
use Rattle.tree_draft.specs.declared.row.KeyedRow.{KeyedRow}
use Rattle.tree_laws.specs.Keys.{Key}

-- the first empty slot, or the one behind the last
pub record IsFirstEmpty (leaf : Leaf) (i : ℕ) : Type 0 where
  pub there : i ≤ length leaf
  pub empty : slice_index_or leaf i None ≡ None
  pub first : (j : ℕ) → j < i → slice_index_or leaf j None ≢ None

-- a row behind its key
abbrev pub keyed : List Column → List Value → KeyedRow
keyed cols row = record { key = key_of cols row; row = row }

-- a key goes before the first row that isn't before it, or behind all
pub record IsPlaceFor (key : Key) (rows : List KeyedRow) (i : ℕ) : Type 0 where
  pub there : i ≤ length rows
  pub upto : (d : KeyedRow) → i < length rows → is_le (key_cmp key (slice_index_or rows i d).key) ≡ true
  pub behind : (j : ℕ) (d : KeyedRow) → j < i → is_le (key_cmp key (slice_index_or rows j d).key) ≡ false
