-- Numbers that have had their turn: each once, and marked.
use Rattle.std.specs.Prelude.{Bool, true, false, if◌then◌else◌, ◌≡◌, ◌<◌, ℕ, List, length, slice_index_or}
use Rattle.table_heap.specs.Growth.{count_of}

-- those that are marked are in the list once, and no others
abbrev pub Marks : List Bool → List ℕ → Type 0
Marks marked order = (i : ℕ) → count_of i order ≡ (if slice_index_or marked i false then 1 else 0)

-- what was marked stays so, and this number is marked too where it has a mark
pub record MarksToo (i : ℕ) (old new : List Bool) : Type 0 where
  pub size : length new ≡ length old
  pub too : i < length old → slice_index_or new i false ≡ true
  pub stay : (j : ℕ) → slice_index_or old j false ≡ true → slice_index_or new j false ≡ true
