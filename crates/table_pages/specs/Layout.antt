-- What pages say: each is blank or holds one table, its name and columns in slot 0 and its rows in the other slots.
use Rattle.std.specs.Prelude.{◌≡◌, ◌≢◌, ℕ, zero, suc, ◌+◌, ◌<◌, ◌==◌, ◌&&◌, Bool, true, false, if◌then◌else◌, List, [], ◌∷◌, length, Option, Some, None}
use Rattle.std.specs.Str.{bytes_eq}
use Rattle.page_base.specs.declared.column.Column.{Column}
use Rattle.page_base.specs.declared.numbers.PageId.{PageId}
use Rattle.page_base.specs.declared.value.Value.{Value}
use Rattle.page_base.specs.Slots.{Slots}
use Rattle.plain_model.specs.Tables.{Rows, Table, Tables, key_of}
use Rattle.table_pages.specs.Gathered.{Item, Skip, Bad, Has, collect}
use Rattle.table_pages.specs.Rows.{row_of}
use Rattle.table_pages.specs.Headers.{header_of}

-- a row by its key
abbrev pub keyed : List Column → Option (List Value) → Item (List Value) (List Value)
keyed cols None = Bad
keyed cols (Some row) = Has (key_of cols row) row

-- a slot as a row; an empty slot is none
abbrev pub row_item : List Column → List ℕ → Item (List Value) (List Value)
row_item cols [] = Skip
row_item cols (b ∷ bs) = keyed cols (row_of cols (b ∷ bs))

-- the slots behind slot 0 as rows
abbrev pub row_at : List Column → (ℕ → List ℕ) → ℕ → Item (List Value) (List Value)
row_at cols page i = row_item cols (page (i + 1))

-- the rows of a page; no page has more than 4,048 slots
unfoldable pub rows_in : List Column → (ℕ → List ℕ) → Option Rows
rows_in cols page = collect (row_at cols page) 4047

-- the n slots behind slot 0 are empty
abbrev pub are_empty : (ℕ → List ℕ) → ℕ → Bool
are_empty page zero = true
are_empty page (suc n) = length (page (n + 1)) == 0 && are_empty page n

-- all slots behind slot 0 are empty
unfoldable pub is_bare : (ℕ → List ℕ) → Bool
is_bare page = are_empty page 4047

-- a table of these columns, if the rows are one
abbrev pub with_rows : List ℕ → List Column → Option Rows → Item (List ℕ) Table
with_rows name cols None = Bad
with_rows name cols (Some rows) = Has name (record { cols = cols; rows = rows })

-- a page with this name and these columns
abbrev pub with_header : Option (List ℕ × List Column) → (ℕ → List ℕ) → Item (List ℕ) Table
with_header None page = Bad
with_header (Some h) page = with_rows h.0 h.1 (rows_in h.1 page)

-- a page with these bytes in slot 0; without them it is blank, and has no rows
abbrev pub with_front : List ℕ → (ℕ → List ℕ) → Item (List ℕ) Table
with_front [] page = if is_bare page then Skip else Bad
with_front (b ∷ bs) page = with_header (header_of (b ∷ bs)) page

-- the table of a page
unfoldable pub table_item : (ℕ → List ℕ) → Item (List ℕ) Table
table_item page = with_front (page 0) page

-- the page of table i: page 0 of the file stays blank
abbrev pub place : ℕ → PageId
place i = record { file = 0; page = i + 1 }

-- the table of page i
abbrev pub table_at : Slots → ℕ → Item (List ℕ) Table
table_at slots i = table_item (slots (place i))

-- the tables of the first n pages behind page 0; none where these pages aren't a set of tables
unfoldable pub tables_of : ℕ → Slots → Option Tables
tables_of n slots = collect (table_at slots) n

-- page i holds no table
abbrev pub IsBlankAt : Slots → ℕ → Type 0
IsBlankAt slots i = slots (place i) 0 ≡ []

-- behind a blank page all pages are blank
pub record IsPacked (n : ℕ) (slots : Slots) : Type 0 where
  pub behind : (i j : ℕ) → i < j → j < n → IsBlankAt slots i → IsBlankAt slots j

-- page i isn't blank, and if it holds a table then one of another name
pub record IsOther (slots : Slots) (i : ℕ) (name : List ℕ) : Type 0 where
  pub full : slots (place i) 0 ≢ []
  pub other : (held : List ℕ) (t : Table) → table_at slots i ≡ Has held t → bytes_eq held name ≡ false

-- each of the first i pages holds a table of another name
abbrev pub Passed : Slots → ℕ → List ℕ → Type 0
Passed slots i name = (k : ℕ) → k < i → IsOther slots k name
