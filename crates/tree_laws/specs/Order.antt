-- The order of a tree: least keys and rows ascend, page by page in key order.
use Rattle.std.specs.Prelude.{Bool, true, false, ◌&&◌, Option, None, Some, is_some, Result, Ok, Err, ℕ, zero, suc, List, [], ◌∷◌, ◌++◌, map, if◌then◌else◌}
use Rattle.std.specs.List.{flat_map, list_all}
use Rattle.std.specs.Ordering.{is_le, is_lt, eq_by_cmp}
use Rattle.page_base.specs.declared.column.Column.{Column}
use Rattle.page_base.specs.declared.numbers.PageId.{PageId}
use Rattle.page_base.specs.declared.value.Value.{Value}
use Rattle.page_base.specs.Order.{key_cmp}
use Rattle.page_fmt.specs.Seen.{SlotsAt}
use Rattle.plain_model.specs.Tables.{key_of, Rows}
use Rattle.row_fmt.specs.Reading.{row_at}
use Rattle.table_walk.specs.Tables.{full, Shape, HasRows}
use Rattle.tree_laws.specs.declared.child.Child.{Child}
use Rattle.tree_laws.specs.Keys.{Key, key_columns, whole}
use Rattle.tree_laws.specs.Kids.{children, level_of, tree_kids, first}

-- the least key of a page, or the key of a row
pub data Mark : Type 0 where
  Least : (key : Key) → Mark
  Row : (key : Key) → Mark

-- whether a mark may stand before another: all ascend, but that a page's least key may be that of its first row
abbrev pub precedes : Mark → Mark → Bool
precedes (Least k) (Row l) = is_le (key_cmp k l)
precedes (Least k) (Least l) = is_lt (key_cmp k l)
precedes (Row k) (Least l) = is_lt (key_cmp k l)
precedes (Row k) (Row l) = is_lt (key_cmp k l)

-- whether each may stand before all behind it
abbrev pub ascend : List Mark → Bool
ascend [] = true
ascend (m ∷ ms) = list_all (precedes m) ms && ascend ms

abbrev pub placed_key : Key → List Key → List Key
placed_key k [] = k ∷ []
placed_key k (l ∷ ls) = if is_le (key_cmp k l) then k ∷ l ∷ ls else l ∷ placed_key k ls

abbrev pub with_row_key : List Column → Option (List Value) → List Key → List Key
with_row_key cols None ks = ks
with_row_key cols (Some row) ks = placed_key (key_of cols row) ks

-- the keys of the rows in cells, in order
abbrev pub keys_in : List Column → List (List ℕ) → List Key
keys_in cols [] = []
keys_in cols (x ∷ xs) = with_row_key cols (whole (row_at cols x)) (keys_in cols xs)

abbrev pub own : Option Key → List Mark
own None = []
own (Some k) = Least k ∷ []

-- children that were read, none where a slot is damaged
abbrev pub read : Result (List Child) ℕ → List Child
read (Ok cs) = cs
read (Err e) = []

abbrev pub children_at : List Column → List (List ℕ) → List Child
children_at cols slots = read (children (key_columns cols) slots)

-- the first child's least key says no more than that of its page
abbrev pub headless : List Child → List Child
headless [] = []
headless (c ∷ cs) = record c { least = None } ∷ cs

-- the least key of a child, and what stands inside its page
abbrev pub marks_of : (PageId → List Mark) → Child → List Mark
marks_of within c = own c.least ++ within c.page

-- the least keys and the rows inside a page of this level
abbrev pub inside : List Column → SlotsAt → ℕ → PageId → List Mark
inside cols at zero p = map Row (keys_in cols (full (at p)))
inside cols at (suc n) p = flat_map (marks_of (inside cols at n)) (headless (children_at cols (at p)))

abbrev pub has_least : Child → Bool
has_least c = is_some c.least

-- whether a least key is none or this one
abbrev pub is_none_or : Option Key → Option Key → Bool
is_none_or least None = true
is_none_or None (Some k) = false
is_none_or (Some l) (Some k) = eq_by_cmp key_cmp l k

-- the first child has the least key of its page, or none; each behind it has one
abbrev pub are_part : Option Key → List Child → Bool
are_part least [] = true
are_part least (c ∷ cs) = is_none_or least c.least && list_all has_least cs

-- so it is inside a page of this level, which has this least key
abbrev pub are_parted : List Column → SlotsAt → ℕ → Option Key → PageId → Bool
are_parted cols at zero least p = true
are_parted cols at (suc n) least p = are_part least (children_at cols (at p)) && list_all (λ c. are_parted cols at n c.least c.page) (children_at cols (at p))

-- whether the pages from a root on stand in order; the root has no least key
abbrev pub in_order : List Column → SlotsAt → PageId → Bool
in_order cols at root = ascend (inside cols at (level_of (at root)) root) && are_parted cols at (level_of (at root)) None root

-- the layout: what a page of a tree names, and that its pages stand in order
abbrev pub tree_shape : List Column → Shape
tree_shape cols = record { kids = tree_kids cols None; keeps = λ c start at. in_order c at start.page }

-- the rows of the tree with this root, over the pages that it owns
abbrev pub RowsAt : List Column → SlotsAt → (PageId → Bool) → PageId → Rows → Type 0
RowsAt cols at owns root rows = HasRows (tree_shape cols) cols at owns (first root) rows
