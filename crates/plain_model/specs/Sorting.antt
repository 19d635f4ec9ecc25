-- The stable order of ORDER BY.
use Rattle.std.specs.Prelude.{Bool, true, false, if◌then◌else◌, List, [], ◌∷◌}
use Rattle.std.specs.declared.cmp.Ordering.{Ordering}
use Rattle.std.specs.declared.cmp.Ordering.TheVariants.{Equal}
use Rattle.std.specs.Ordering.{is_lt, ordering_then, flip_args}
use Rattle.page_base.specs.declared.column.Column.{Column}
use Rattle.page_base.specs.declared.value.Value.{Value}
use Rattle.page_base.specs.Order.{value_cmp}
use Rattle.plain_model.specs.declared.stmt.OrderItem.{OrderItem}
use Rattle.plain_model.specs.Cells.{cell}

-- an element among others in order: it stands before the first that isn't less
abbrev pub placed : {X : Type 0} → (X → X → Bool) → X → List X → List X
placed less x [] = x ∷ []
placed less x (y ∷ ys) = if less y x then y ∷ placed less x ys else x ∷ y ∷ ys

-- the elements in order; those of which none is less stand as they stood
abbrev pub sorted_by : {X : Type 0} → (X → X → Bool) → List X → List X
sorted_by less [] = []
sorted_by less (x ∷ xs) = placed less x (sorted_by less xs)

-- the order of two values of a column, where NULL is the least value; for DESC the other way round
abbrev pub directed : Bool → Value → Value → Ordering
directed false = value_cmp
directed true = flip_args value_cmp

-- the order of two rows: by the first ORDER BY column in which they differ
abbrev pub row_cmp : List Column → List OrderItem → List Value → List Value → Ordering
row_cmp cols [] a b = Equal
row_cmp cols (item ∷ items) a b = ordering_then (directed item.down (cell cols a item.col) (cell cols b item.col)) (row_cmp cols items a b)

-- whether one row must stand before the other
abbrev pub is_before : List Column → List OrderItem → List Value → List Value → Bool
is_before cols items a b = is_lt (row_cmp cols items a b)

-- rows in the order of ORDER BY
abbrev pub ordered : List Column → List OrderItem → List (List Value) → List (List Value)
ordered cols items rows = sorted_by (is_before cols items) rows
