-- Where rows go in the leaves of a heap: keys are cut first, and then rows are put one at a time.
pub use Rattle.table_walk.specs.Leaves.{Leaf, cell, slots_of, fits, rows_in, ByKeys, has, holds, before, trimmed, changed, added}
use Rattle.std.specs.Prelude.{Bool, false, if◌then◌else◌, None, Some, List, [], ◌∷◌, ◌++◌}
use Rattle.page_base.specs.declared.column.Column.{Column}
use Rattle.page_base.specs.declared.value.Value.{Value}
use Rattle.plain_model.specs.Tables.{key_of}

-- the rows of all leaves
abbrev pub all_rows : List Leaf → List (List Value)
all_rows [] = []
all_rows (leaf ∷ leaves) = rows_in leaf ++ all_rows leaves

-- the first leaf that holds the row of a key is without it
abbrev pub cut : List Column → List Value → List Leaf → List Leaf
cut cols key [] = []
cut cols key (leaf ∷ leaves) = if holds cols key leaf then trimmed (changed cols key None leaf) ∷ leaves else leaf ∷ cut cols key leaves

-- the first leaf that holds the row of a key has room for another row in its slot
abbrev pub has_room : List Column → List Value → List Value → List Leaf → Bool
has_room cols key row [] = false
has_room cols key row (leaf ∷ leaves) = if holds cols key leaf then fits (changed cols key (Some row) leaf) else has_room cols key row leaves

-- there the other row stands in its slot
abbrev pub swap : List Column → List Value → List Value → List Leaf → List Leaf
swap cols key row [] = []
swap cols key row (leaf ∷ leaves) = if holds cols key leaf then changed cols key (Some row) leaf ∷ leaves else leaf ∷ swap cols key row leaves

-- a new row goes into the first leaf that has room for it, else into a new leaf at the end
abbrev pub add : List Value → List Leaf → List Leaf
add row [] = (Some row ∷ []) ∷ []
add row (leaf ∷ leaves) = if fits (added row leaf) then added row leaf ∷ leaves else leaf ∷ add row leaves

-- a row takes the slot of the row of its key where it fits, else it goes as a new one
abbrev pub put : List Column → List Value → List Leaf → List Leaf
put cols row leaves = if has_room cols (key_of cols row) row leaves then swap cols (key_of cols row) row leaves else add row (cut cols (key_of cols row) leaves)

-- all keys are cut, in order
abbrev pub cut_keys : List Column → List (List Value) → List Leaf → List Leaf
cut_keys cols [] leaves = leaves
cut_keys cols (k ∷ ks) leaves = cut_keys cols ks (cut cols k leaves)

-- all rows are put, in order
abbrev pub put_rows : List Column → List (List Value) → List Leaf → List Leaf
put_rows cols [] leaves = leaves
put_rows cols (r ∷ rs) leaves = put_rows cols rs (put cols r leaves)
