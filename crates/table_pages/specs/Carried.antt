-- The tables of the source's pages, and plans of edits that carry them to others.
use Rattle.std.specs.Prelude.{◌≡◌, ◌⊎◌, ℕ, ◌-◌, ◌<◌, List, length, All, Option, Some, slice_index}
use Rattle.page_fmt.specs.Content.{content}
use Rattle.page_fmt.specs.Edits.{slot_at}
use Rattle.page_base.specs.declared.column.Column.{Column}
use Rattle.early_pages.specs.Shown.{Shown, img, counts, IsThere}
use Rattle.early_pages.specs.Slots.{slots_of}
use Rattle.plain_model.specs.Tables.{Table, Tables}
use Rattle.table_pages.specs.declared.edit.Edit.{Edit}
use Rattle.table_pages.specs.Gathered.{Has}
use Rattle.table_pages.specs.Headers.{header}
use Rattle.table_pages.specs.Layout.{table_item, tables_of, place, IsBlankAt, IsPacked}
use Rattle.table_pages.specs.Edits.{done, FitIn, Change}

-- how many pages of the first file can hold a table
abbrev pub data_pages : Shown → ℕ
data_pages v = slice_index (counts v) 0 - 1

-- the tables of the source's pages
abbrev pub decoded : Shown → Option Tables
decoded v = tables_of (data_pages v) (slots_of (img v))

-- a page holds this table
abbrev pub Holds : List ℕ → List ℕ → Table → Type 0
Holds image name t = table_item (slot_at (content image)) ≡ Has name t

-- the edits lie on pages that are there, fit, change their slots, and leave these tables with no gap between their pages
pub record Carries (v : Shown) (edits : List Edit) (tables : Tables) : Type 0 where
  pub there : All (λ (e : Edit). IsThere v e.page) edits
  pub fits : FitIn (λ p. content (img v p)) edits
  pub changes : Change (slots_of (img v)) edits
  pub says : tables_of (data_pages v) (done edits (slots_of (img v))) ≡ Some tables
  pub packed : IsPacked (data_pages v) (done edits (slots_of (img v)))

-- no page is blank
abbrev pub IsFull : Shown → Type 0
IsFull v = (i : ℕ) → i < data_pages v → ¬ IsBlankAt (slots_of (img v)) i

-- page i is the first blank one
pub record IsFirstBlank (v : Shown) (i : ℕ) : Type 0 where
  pub within : i < data_pages v
  pub blank : IsBlankAt (slots_of (img v)) i
  pub first : (k : ℕ) → k < i → ¬ IsBlankAt (slots_of (img v)) k

-- no page is blank, or what says the table's name and columns is longer than a page
abbrev pub LacksPage : Shown → List ℕ → List Column → Type 0
LacksPage v name cols = IsFull v ⊎ (8094 < length (header name cols))

-- the edit of a new table: its header, in slot 0 of the first blank page
pub record IsHeaderEdit (v : Shown) (name : List ℕ) (cols : List Column) (e : Edit) : Type 0 where
  pub at : ℕ
  pub first : IsFirstBlank v at
  pub page : e.page ≡ place at
  pub slot : e.slot ≡ 0
  pub bytes : e.bytes ≡ header name cols
