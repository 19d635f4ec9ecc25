-- A tree of typed pages: what stands inside a page of a level, its rows, and the pages below it.
use Rattle.std.specs.Prelude.{if◌then◌else◌, None, ℕ, ◌+◌, zero, suc, List, [], ◌∷◌, ◌++◌, map}
use Rattle.std.specs.List.{flat_map}
use Rattle.page_base.specs.declared.column.Column.{Column}
use Rattle.page_base.specs.declared.numbers.PageId.{PageId}
use Rattle.page_base.specs.declared.value.Value.{Value}
use Rattle.page_base.specs.Pages.{is_page}
use Rattle.plain_model.specs.Tables.{key_of}
use Rattle.tree_laws.specs.Order.{Mark, own}
use Rattle.tree_laws.specs.Order.Mark.{Row}
use Rattle.tree_laws.specs.Puts.{rows_in_order, in_key_order}
use Rattle.tree_laws.specs.Sheets.{Entry, Sheet, leaf_in, entries_in}

-- the entries of a page in key order
abbrev pub entries_at : (PageId → Sheet) → PageId → List Entry
entries_at s p = in_key_order (entries_in (s p))

-- the first entry's least key says no more than that of its page
abbrev pub headless : List Entry → List Entry
headless [] = []
headless (e ∷ es) = record e { least = None } ∷ es

-- the key of a row, as a mark
abbrev pub row_mark : List Column → List Value → Mark
row_mark cols row = Row (key_of cols row)

-- the least key of an entry, and what stands inside its page
abbrev pub marks_of : (PageId → List Mark) → Entry → List Mark
marks_of within e = own e.least ++ within e.page

-- the least keys and the rows inside a page of this level
abbrev pub inside : List Column → (PageId → Sheet) → ℕ → PageId → List Mark
inside cols s zero p = map (row_mark cols) (rows_in_order cols (leaf_in (s p)))
inside cols s (suc n) p = flat_map (marks_of (inside cols s n)) (headless (entries_at s p))

-- its rows, in key order
abbrev pub rows_of : List Column → (PageId → Sheet) → ℕ → PageId → List (List Value)
rows_of cols s zero p = rows_in_order cols (leaf_in (s p))
rows_of cols s (suc n) p = flat_map (λ e. rows_of cols s n e.page) (entries_at s p)

-- the page, and those below it
abbrev pub pages_of : (PageId → Sheet) → ℕ → PageId → List PageId
pages_of s zero p = p ∷ []
pages_of s (suc n) p = p ∷ flat_map (λ e. pages_of s n e.page) (entries_at s p)

-- how often a page stands among some
abbrev pub times : PageId → List PageId → ℕ
times q [] = 0
times q (p ∷ ps) = (if is_page p q then 1 else 0) + times q ps

-- each of some things
abbrev pub Each : {X : Type 0} → (X → Type 0) → List X → Type 0
Each P [] = Unit {0}
Each P (x ∷ xs) = P x × Each P xs
