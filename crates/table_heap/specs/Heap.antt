-- A heap: root pages that name leaves, 1,000 on each before the next, and leaves with a row in each slot that isn't empty.
use Rattle.std.specs.Prelude.{Bool, true, ◌==◌, nat_lt, Option, None, Some, Result, Ok, Err, if◌then◌else◌, ℕ, ◌+◌, List, [], ◌∷◌, ◌++◌, length, drop, slice_index_or}
use Rattle.page_base.specs.declared.column.Column.{Column}
use Rattle.page_base.specs.declared.numbers.PageId.{PageId}
use Rattle.page_fmt.specs.Seen.{SlotsAt}
use Rattle.plain_model.specs.Tables.{Rows}
use Rattle.table_walk.specs.declared.visit.Visit.{Visit}
use Rattle.table_walk.specs.Addresses.{page_at, names_none}
use Rattle.table_walk.specs.Walk.{Kids}
use Rattle.table_walk.specs.Tables.{is_leaf, Shape, HasRows}

-- one leaf more in front
abbrev pub before : Visit → Result (List Visit) ℕ → Result (List Visit) ℕ
before v (Ok vs) = Ok (v ∷ vs)
before v (Err e) = Err e

-- a leaf that slot i names, in front of those that later slots name
abbrev pub leaf_named : PageId → ℕ → Option PageId → Result (List Visit) ℕ → Result (List Visit) ℕ
leaf_named from i None rest = Err i
leaf_named from i (Some p) rest = before (record { page = p; from = from; slot = i; level = Some 0 }) rest

-- each slot from i on is the address of a leaf
abbrev pub leaf_visits : PageId → ℕ → List (List ℕ) → Result (List Visit) ℕ
leaf_visits from i [] = Ok []
leaf_visits from i (x ∷ xs) = leaf_named from i (page_at x) (leaf_visits from (i + 1) xs)

-- the next root page that slot 0 names
abbrev pub root_named : PageId → Option PageId → Result (List Visit) ℕ
root_named from None = Err 0
root_named from (Some p) = Ok (record { page = p; from = from; slot = 0; level = Some 1 } ∷ [])

-- slot 0 names none, or the next root page, and that only where 1,000 leaves are named
abbrev pub next_visits : PageId → ℕ → List ℕ → Result (List Visit) ℕ
next_visits from count x = if names_none x then Ok [] else (if count == 1001 then root_named from (page_at x) else Err 0)

-- visits in front of others
abbrev pub put_before : List Visit → Result (List Visit) ℕ → Result (List Visit) ℕ
put_before vs (Ok ws) = Ok (vs ++ ws)
put_before vs (Err e) = Err e

-- the leaves, and then the next root page
abbrev pub join : Result (List Visit) ℕ → Result (List Visit) ℕ → Result (List Visit) ℕ
join (Ok vs) next = put_before vs next
join (Err e) next = Err e

-- what a root page names: at most 1,000 leaves in slots 1 to 1,000, and the next root page
abbrev pub root_kids : PageId → List (List ℕ) → Result (List Visit) ℕ
root_kids from slots =
    if length slots == 0 then Err 0 else (if nat_lt 1001 (length slots) then Err 1001 else join (leaf_visits from 1 (drop 1 slots)) (next_visits from (length slots) (slice_index_or slots 0 [])))

-- what a page of a heap names: a leaf names none
abbrev pub heap_kids : Kids
heap_kids v slots = if is_leaf v then Ok [] else root_kids v.page slots

-- a heap keeps nothing beside its walk and its rows
abbrev pub heap_shape : Shape
heap_shape = record { kids = heap_kids; keeps = λ cols start at. true }

-- the visit of the first root page
abbrev pub first : PageId → Visit
first root = record { page = root; from = root; slot = 0; level = Some 1 }

-- the rows of the heap with this root, over the pages that it owns
abbrev pub RowsAt : List Column → SlotsAt → (PageId → Bool) → PageId → Rows → Type 0
RowsAt cols at owns root rows = HasRows heap_shape cols at owns (first root) rows
