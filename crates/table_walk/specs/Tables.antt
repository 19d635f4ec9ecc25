-- A table of pages, the same for each layout: the pages of a walk are those that it owns, and their cells are its rows.
use Rattle.std.specs.Prelude.{Bool, true, false, Option, None, Some, if◌then◌else◌, ◌≡◌, ◌≢◌, ◌≤◌, ℕ, zero, suc, ◌<◌, List, [], ◌∷◌, ◌++◌, ◌↔◌, length, slice_index_or}
use Rattle.std.specs.List.{Any}
use Rattle.std.specs.FinMap as finite
use Rattle.page_base.specs.declared.column.Column.{Column}
use Rattle.page_base.specs.declared.limits.TheConstants.{MAX_ROW_BYTES, MAX_KEY_BYTES}
use Rattle.page_base.specs.declared.numbers.PageId.{PageId}
use Rattle.page_base.specs.declared.value.Value.{Value}
use Rattle.page_fmt.specs.Seen.{SlotsAt, Looked, look}
use Rattle.plain_model.specs.Tables.{Rows, key_of}
use Rattle.row_fmt.specs.Rows.{IsRow, IsRowOf, row_bytes}
use Rattle.row_fmt.specs.Keys.{key_bytes}
use Rattle.table_walk.specs.declared.visit.Visit.{Visit}
use Rattle.table_walk.specs.Walk.{Kids, Reaches, IsWalk, IsSeenWalk}

-- whether no page stands below
abbrev pub is_zero : Option ℕ → Bool
is_zero None = false
is_zero (Some zero) = true
is_zero (Some (suc n)) = false

-- whether the page of a visit holds rows
abbrev pub is_leaf : Visit → Bool
is_leaf v = is_zero v.level

-- the slots that aren't empty
abbrev pub full : List (List ℕ) → List (List ℕ)
full [] = []
full ([] ∷ xs) = full xs
full ((b ∷ bs) ∷ xs) = (b ∷ bs) ∷ full xs

-- those of a page that holds rows
abbrev pub cells_of : SlotsAt → Visit → List (List ℕ)
cells_of at v = if is_leaf v then full (at v.page) else []

-- those of all pages, in the order of the walk
abbrev pub cells : SlotsAt → List Visit → List (List ℕ)
cells at [] = []
cells at (v ∷ vs) = cells_of at v ++ cells at vs

-- a row within the limits: 8,060 bytes, and 900 bytes of key
pub record IsSmall (cols : List Column) (row : List Value) : Type 0 where
  pub bytes : length (row_bytes row) ≤ MAX_ROW_BYTES
  pub key : length (key_bytes cols row) ≤ MAX_KEY_BYTES

-- a row that a plan may put: one of these columns, of which there are some, within the limits
pub record MayPut (cols : List Column) (row : List Value) : Type 0 where
  pub of : IsRowOf cols row
  pub small : IsSmall cols row
  pub some : row ≢ []

-- the rows that these cells spell, by their keys: each cell is a row within the limits, and no two have one key
abbrev pub Gathers : List Column → List (List ℕ) → Rows → Type 0
Gathers cols [] rows = rows ≡ finite.empty
Gathers cols (x ∷ xs) rows =
    (row : List Value) × (rest : Rows) × IsRow cols x row × IsSmall cols row × Gathers cols xs rest
    × (finite.get rest (key_of cols row) ≡ None) × (rows ≡ finite.insert rest (key_of cols row) row)

-- these pages are the table: the walk comes to each page that is owned and to no other, and the rows stand in them
pub record IsTable (kids : Kids) (cols : List Column) (at : SlotsAt) (owns : PageId → Bool) (start : Visit) (rows : Rows) (done : List Visit) : Type 0 where
  pub walk : IsWalk kids at start done []
  pub owned : (p : PageId) → (owns p ≡ true) ↔ Reaches done p
  pub gathers : Gathers cols (cells at done) rows

-- a layout: what a page names, and what else a table from a visit on keeps
pub record Shape : Type 0 where
  pub kids : Kids
  pub keeps : List Column → Visit → SlotsAt → Bool

-- the pages of a walk, as they stand
abbrev pub shown : SlotsAt → List Visit → List Looked
shown at [] = []
shown at (v ∷ vs) = record { page = v.page; slots = at v.page } ∷ shown at vs

-- the pages that are owned are a table of these rows, and keep what its layout says, of which they alone are seen
abbrev pub HasRows : Shape → List Column → SlotsAt → (PageId → Bool) → Visit → Rows → Type 0
HasRows shape cols at owns start rows = (done : List Visit) × IsTable shape.kids cols at owns start rows done × (shape.keeps cols start (look (shown at done)) ≡ true)

-- this cell is a row
abbrev pub IsSomeRow : List Column → List ℕ → Type 0
IsSomeRow cols x = (row : List Value) × IsRow cols x row

-- this slot isn't empty, and is no row
pub record IsNoRow (cols : List Column) (slots : List (List ℕ)) (slot : ℕ) : Type 0 where
  pub there : slot < length slots
  pub some : slice_index_or slots slot [] ≢ []
  pub wrong : ¬ IsSomeRow cols (slice_index_or slots slot [])

-- this slot stands on the page of a visit that holds rows, and is no row
pub record IsNoRowOf (cols : List Column) (seen : List Looked) (page : PageId) (slot : ℕ) (v : Visit) : Type 0 where
  pub at : v.page ≡ page
  pub leaf : is_leaf v ≡ true
  pub no : IsNoRow cols (look seen page) slot

-- over a whole walk, this slot is no row
abbrev pub IsBadRow : Kids → List Column → List Looked → Visit → PageId → ℕ → Type 0
IsBadRow kids cols seen start page slot = (done : List Visit) × IsSeenWalk kids seen start done [] × Any (IsNoRowOf cols seen page slot) done

-- each of these cells is a row
abbrev pub AreRows : List Column → List (List ℕ) → Type 0
AreRows cols [] = Unit {0}
AreRows cols (x ∷ xs) = IsSomeRow cols x × AreRows cols xs
