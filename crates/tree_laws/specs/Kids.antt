-- A tree: a page of a level names its children, each with the least key that it may hold; leaves stand under level 1.
use Rattle.std.specs.Prelude.{Bool, true, false, nat_le, ◌==◌, Option, None, Some, Result, Ok, Err, if◌then◌else◌, ℕ, zero, suc, ◌+◌, ◌-◌, List, [], ◌∷◌, length, take, drop, map, slice_index_or}
use Rattle.std.specs.Ordering.{is_le}
use Rattle.page_base.specs.declared.column.Column.{Column}
use Rattle.page_base.specs.declared.limits.TheConstants.{MAX_KEY_BYTES}
use Rattle.page_base.specs.declared.numbers.PageId.{PageId}
use Rattle.page_base.specs.Order.{key_cmp}
use Rattle.byte_fields.specs.Numbers.{number_in}
use Rattle.table_walk.specs.declared.visit.Visit.{Visit}
use Rattle.table_walk.specs.Addresses.{page_at}
use Rattle.table_walk.specs.Tables.{is_leaf}
use Rattle.table_walk.specs.Walk.{Kids}
use Rattle.tree_laws.specs.declared.child.Child.{Child}
use Rattle.tree_laws.specs.Keys.{Key, key_columns, key_at}

-- whether a least key doesn't stand behind another; none stands before all
abbrev pub is_upto : Option Key → Option Key → Bool
is_upto None o = true
is_upto (Some k) None = false
is_upto (Some k) (Some l) = is_le (key_cmp k l)

-- one more among children in order of their least keys
abbrev pub placed : Child → List Child → List Child
placed c [] = c ∷ []
placed c (d ∷ ds) = if is_upto c.least d.least then c ∷ d ∷ ds else d ∷ placed c ds

-- children in order of their least keys, the one of the earlier slot first where two are the same
abbrev pub sorted : List Child → List Child
sorted [] = []
sorted (c ∷ cs) = placed c (sorted cs)

-- the least key behind an address, within the limit of keys; no bytes are none
abbrev pub least_at : List Column → List ℕ → Option (Option Key)
least_at keys [] = Some None
least_at keys (b ∷ bs) = if nat_le (length (b ∷ bs)) MAX_KEY_BYTES then some_key (key_at keys (b ∷ bs)) else None
  where
    some_key : Option Key → Option (Option Key)
    some_key None = None
    some_key (Some k) = Some (Some k)

-- a child, where its page and its least key are read
abbrev pub child_of : ℕ → Option PageId → Option (Option Key) → Option Child
child_of slot (Some p) (Some least) = Some (record { least = least; page = p; slot = slot })
child_of slot (Some p) None = None
child_of slot None least = None

abbrev pub child_at : List Column → ℕ → List ℕ → Option Child
child_at keys slot x = child_of slot (page_at (take 5 x)) (least_at keys (drop 5 x))

abbrev pub with_child : ℕ → Option Child → Result (List Child) ℕ → Result (List Child) ℕ
with_child slot None rest = Err slot
with_child slot (Some c) (Ok cs) = Ok (c ∷ cs)
with_child slot (Some c) (Err e) = Err e

-- the children that the slots from i on name, slot by slot, or the first slot that names none; an empty slot is passed over
abbrev pub named : List Column → ℕ → List (List ℕ) → Result (List Child) ℕ
named keys i [] = Ok []
named keys i ([] ∷ xs) = named keys (i + 1) xs
named keys i ((b ∷ bs) ∷ xs) = with_child i (child_at keys i (b ∷ bs)) (named keys (i + 1) xs)

abbrev pub all_sorted : Result (List Child) ℕ → Result (List Child) ℕ
all_sorted (Ok cs) = Ok (sorted cs)
all_sorted (Err e) = Err e

-- the children that a page names behind slot 0, in key order
abbrev pub children : List Column → List (List ℕ) → Result (List Child) ℕ
children keys slots = all_sorted (named keys 1 (drop 1 slots))

-- the level in slot 0; 0 where none stands there
abbrev pub level_of : List (List ℕ) → ℕ
level_of slots = if length (slice_index_or slots 0 []) == 4 then number_in 4 (slice_index_or slots 0 []) else 0

-- whether a page may have this level: that of its visit, or any from 1 on
abbrev pub may_be : Option ℕ → ℕ → Bool
may_be level zero = false
may_be None (suc n) = true
may_be (Some l) (suc n) = l == suc n

-- only a page of level 1 has no child
abbrev pub some_below : ℕ → Result (List Child) ℕ → Result (List Child) ℕ
some_below level (Err e) = Err e
some_below level (Ok (c ∷ cs)) = Ok (c ∷ cs)
some_below level (Ok []) = if level == 1 then Ok [] else Err 0

-- the children of a root or inner page
abbrev pub node : List Column → Option ℕ → List (List ℕ) → Result (List Child) ℕ
node keys level slots = if may_be level (level_of slots) then some_below (level_of slots) (children keys slots) else Err 0

-- whether a child may hold a key, if its neighbour behind it doesn't
abbrev pub may_hold : Key → Child → Bool
may_hold key c = is_upto c.least (Some key)

-- the last child that may hold the key, c where none does
abbrev pub chosen_from : Key → Child → List Child → Child
chosen_from key c [] = c
chosen_from key c (d ∷ ds) = if may_hold key d then chosen_from key d ds else c

-- the children that are asked for: all, or the one for a key
abbrev pub wanted : Option Key → List Child → List Child
wanted None cs = cs
wanted (Some key) [] = []
wanted (Some key) (c ∷ cs) = chosen_from key c cs ∷ []

abbrev pub visit_of : PageId → ℕ → Child → Visit
visit_of from level c = record { page = c.page; from = from; slot = c.slot; level = Some level }

abbrev pub visits : Option Key → PageId → ℕ → Result (List Child) ℕ → Result (List Visit) ℕ
visits key from level (Err e) = Err e
visits key from level (Ok cs) = Ok (map (visit_of from (level - 1)) (wanted key cs))

-- what a page of a tree with these key columns names, in key order: all children, or the one for a key; a leaf names none
abbrev pub kids_by : List Column → Option Key → Kids
kids_by keys key v slots = if is_leaf v then Ok [] else visits key v.page (level_of slots) (node keys v.level slots)

-- the same of a tree of rows of these columns
abbrev pub tree_kids : List Column → Option Key → Kids
tree_kids cols key = kids_by (key_columns cols) key

-- the visit of the root, whose level its page tells
abbrev pub first : PageId → Visit
first root = record { page = root; from = root; slot = 0; level = None }
