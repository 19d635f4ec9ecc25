-- A draft of the leaves: where a new row goes in one, and the place of each row by its key.
use Rattle.std.specs.Prelude.{◌≡◌, ◌≢◌, ◌<◌, ◌≤◌, ◌↔◌, ◌⊎◌, Option, None, Some, ℕ, List, [], ◌∷◌, ◌++◌, map, length, slice_index_or}
use Rattle.std.specs.FinMap as finite
use Rattle.page_base.specs.declared.column.Column.{Column}
use Rattle.page_base.specs.declared.value.Value.{Value}
use Rattle.page_base.specs.Order.{key_cmp}
use Rattle.page_fmt.specs.Edits.{set_slot}
use Rattle.page_fmt.specs.Spelling.{used}
use Rattle.plain_model.specs.Tables.{key_of}
use Rattle.table_heap.specs.declared.places.Place.{Place}
use Rattle.table_heap.specs.Leaves.{Leaf, slots_of}
use Rattle.table_walk.specs.Tables.{MayPut}

-- the first empty slot, or the one behind the last
pub record IsFirstEmpty (slots : List (List ℕ)) (i : ℕ) : Type 0 where
  pub there : i ≤ length slots
  pub empty : slice_index_or slots i [] ≡ []
  pub first : (j : ℕ) → j < i → slice_index_or slots j [] ≢ []

-- the row in a slot of a leaf
abbrev pub row_at : List Leaf → ℕ → ℕ → Option (List Value)
row_at leaves i j = slice_index_or (slice_index_or leaves i []) j None

-- the row of a key stands at this place
pub record IsKeyAt (cols : List Column) (leaves : List Leaf) (key : List Value) (p : Place) : Type 0 where
  pub row : List Value
  pub at : row_at leaves p.leaf p.slot ≡ Some row
  pub key_is : key_of cols row ≡ key

-- the places of rows by their keys
abbrev pub Index : Type 0
Index = finite.FinMap key_cmp Place

-- the rows of leaves may all be put
abbrev pub AreRows : List Column → List Leaf → Type 0
AreRows cols leaves = (i j : ℕ) (row : List Value) → row_at leaves i j ≡ Some row → MayPut cols row

-- no two rows have one key
abbrev pub AreApart : List Column → List Leaf → Type 0
AreApart cols leaves = (key : List Value) (p q : Place) → IsKeyAt cols leaves key p → IsKeyAt cols leaves key q → p ≡ q

-- this place comes before a slot of a leaf
abbrev pub IsBefore : ℕ → ℕ → Place → Type 0
IsBefore i j p = (p.leaf < i) ⊎ ((p.leaf ≡ i) × (p.slot < j))

-- an index tells the places of the rows before a slot of a leaf
abbrev pub IsSoFar : List Column → List Leaf → ℕ → ℕ → Index → Type 0
IsSoFar cols leaves i j index = (key : List Value) (p : Place) → (finite.get index key ≡ Some p) ↔ (IsKeyAt cols leaves key p × IsBefore i j p)

-- a draft has these leaves, and its index tells the place of each key's row, and of no other
pub record IsDraft (cols : List Column) (leaves : List Leaf) (slots : List (List (List ℕ))) (index : Index) : Type 0 where
  pub are : slots ≡ map slots_of leaves
  pub rows : AreRows cols leaves
  pub index_is : (key : List Value) (p : Place) → (finite.get index key ≡ Some p) ↔ IsKeyAt cols leaves key p

-- no new row of so many bytes fits into these slots
abbrev pub LacksRoom : List (List ℕ) → ℕ → Type 0
LacksRoom slots size = (x : List ℕ) (j : ℕ) → length x ≡ size → IsFirstEmpty slots j → 8192 < used (set_slot slots j x)

-- a new row of so many bytes goes to this place: into the first leaf that has room, or into one more at the end
pub record IsPlaceFor (old new : List (List (List ℕ))) (size : ℕ) (p : Place) : Type 0 where
  pub leaves : (new ≡ old) ⊎ ((new ≡ old ++ [] ∷ []) × (p.leaf ≡ length old))
  pub there : p.leaf < length new
  pub slot : IsFirstEmpty (slice_index_or new p.leaf []) p.slot
  pub room : (x : List ℕ) → length x ≡ size → used (set_slot (slice_index_or new p.leaf []) p.slot x) ≤ 8192
  pub first : (k : ℕ) → k < p.leaf → LacksRoom (slice_index_or old k []) size

-- a row of so many bytes has room in the slot at this place, which is there
pub record HasRoom (slots : List (List (List ℕ))) (size : ℕ) (p : Place) : Type 0 where
  pub leaf : p.leaf < length slots
  pub slot : p.slot < length (slice_index_or slots p.leaf [])
  pub room : (x : List ℕ) → length x ≡ size → used (set_slot (slice_index_or slots p.leaf []) p.slot x) ≤ 8192
