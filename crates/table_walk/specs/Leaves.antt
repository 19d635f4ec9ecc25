-- A leaf as the rows in its slots, and one row of it that is changed, cut or added.
use Rattle.std.specs.Prelude.{Bool, false, ◌≡◌, nat_le, if◌then◌else◌, Option, None, Some, ℕ, List, [], ◌∷◌, map}
use Rattle.std.specs.FinMap as finite
use Rattle.std.specs.List.{list_any}
use Rattle.std.specs.Ordering.{eq_by_cmp}
use Rattle.page_base.specs.declared.column.Column.{Column}
use Rattle.page_base.specs.declared.value.Value.{Value}
use Rattle.page_base.specs.Order.{key_cmp}
use Rattle.page_fmt.specs.Spelling.{used}
use Rattle.plain_model.specs.Tables.{Rows, key_of}
use Rattle.row_fmt.specs.Rows.{row_bytes}

-- a leaf as the rows in its slots, none in an empty one
abbrev pub Leaf : Type 0
Leaf = List (Option (List Value))

-- the bytes of a slot
abbrev pub cell : Option (List Value) → List ℕ
cell None = []
cell (Some row) = row_bytes row

-- the slots of a leaf
abbrev pub slots_of : Leaf → List (List ℕ)
slots_of leaf = map cell leaf

-- whether a leaf fits on a page
abbrev pub fits : Leaf → Bool
fits leaf = nat_le (used (slots_of leaf)) 8192

-- the rows of a leaf, in slot order
abbrev pub rows_in : Leaf → List (List Value)
rows_in [] = []
rows_in (None ∷ cs) = rows_in cs
rows_in (Some row ∷ cs) = row ∷ rows_in cs

-- rows by their keys, of which no two are the same
abbrev pub ByKeys : List Column → List (List Value) → Rows → Type 0
ByKeys cols [] rows = rows ≡ finite.empty
ByKeys cols (r ∷ rs) rows = (rest : Rows) × ByKeys cols rs rest × (finite.get rest (key_of cols r) ≡ None) × (rows ≡ finite.insert rest (key_of cols r) r)

-- whether a slot holds the row of a key
abbrev pub has : List Column → List Value → Option (List Value) → Bool
has cols key None = false
has cols key (Some row) = eq_by_cmp key_cmp (key_of cols row) key

-- whether a leaf does
abbrev pub holds : List Column → List Value → Leaf → Bool
holds cols key leaf = list_any (has cols key) leaf

-- an empty slot in front of others is left out where none of them holds a row
abbrev pub before : Option (List Value) → Leaf → Leaf
before None [] = []
before None (c ∷ cs) = None ∷ c ∷ cs
before (Some row) cs = Some row ∷ cs

-- without the empty slots at the end
abbrev pub trimmed : Leaf → Leaf
trimmed [] = []
trimmed (c ∷ cs) = before c (trimmed cs)

-- a leaf with something else in the slots that hold the row of a key
abbrev pub changed : List Column → List Value → Option (List Value) → Leaf → Leaf
changed cols key to [] = []
changed cols key to (c ∷ cs) = (if has cols key c then to else c) ∷ changed cols key to cs

-- a leaf with a row in its first empty slot, or behind the last one
abbrev pub added : List Value → Leaf → Leaf
added row [] = Some row ∷ []
added row (None ∷ cs) = Some row ∷ cs
added row (Some r ∷ cs) = Some r ∷ added row cs
