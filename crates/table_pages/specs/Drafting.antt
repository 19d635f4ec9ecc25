-- What a draft keeps beside its page, and what the edits that lead from a page to another keep.
use Rattle.std.specs.Prelude.{◌≡◌, ◌≢◌, ℕ, ◌<◌, ◌≤◌, nat_lt, Bool, List, [], ◌∷◌, ◌++◌, length, All, Option, Some, None}
use Rattle.std.specs.FinMap as finite
use Rattle.page_base.specs.declared.column.Column.{Column}
use Rattle.page_base.specs.declared.numbers.PageId.{PageId}
use Rattle.page_base.specs.declared.value.Value.{Value}
use Rattle.page_base.specs.Order.{key_cmp}
use Rattle.page_base.specs.Slots.{Slots}
use Rattle.page_fmt.specs.Content.{content}
use Rattle.page_fmt.specs.Edits.{edited, slot_at}
use Rattle.page_fmt.specs.Spelling.{used}
use Rattle.row_fmt.specs.Rows.{row_bytes}
use Rattle.plain_model.specs.Tables.{Rows, key_of}
use Rattle.table_pages.specs.declared.edit.Edit.{Edit}
use Rattle.table_pages.specs.Layout.{rows_in}
use Rattle.table_pages.specs.Drafts.{IsKeyAt, LacksKey, Goes, Puts, Drafts}
use Rattle.table_pages.specs.Edits.{done, FitIn, Change}
use Rattle.table_pages.specs.Turns.{AreInTurn}

-- the slots of rows by their keys
abbrev pub Index : Type 0
Index = finite.FinMap key_cmp ℕ

-- an index tells the slot of each key
pub record IsIndex (cols : List Column) (slots : List (List ℕ)) (index : Index) : Type 0 where
  pub found : (key : List Value) (i : ℕ) → finite.get index key ≡ Some i → IsKeyAt cols slots key i
  pub lacks : (key : List Value) → finite.get index key ≡ None → LacksKey cols slots key

-- a draft's page has these rows, and its index tells their slots
pub record IsDraft (cols : List Column) (page : List ℕ) (index : Index) (rows : Rows) : Type 0 where
  pub some : 0 < length cols
  pub rows_are : rows_in cols (slot_at (content page)) ≡ Some rows
  pub index_is : IsIndex cols (content page) index

-- the slots behind slot 0, up to this one, are full
abbrev pub AreFull : List (List ℕ) → ℕ → Type 0
AreFull slots n = (j : ℕ) → 0 < j → j ≤ n → slot_at slots j ≢ []

-- the rows without those of these keys
abbrev pub cut_rows : List (List Value) → Rows → Rows
cut_rows [] rows = rows
cut_rows (key ∷ keys) rows = cut_rows keys (finite.remove rows key)

-- the rows with others, each in place of the one of its key
abbrev pub put_rows : List Column → List (List Value) → Rows → Rows
put_rows cols [] rows = rows
put_rows cols (row ∷ more) rows = put_rows cols more (finite.insert rows (key_of cols row) row)

-- all keys are cut from a draft, and its slot 0 stays
pub record IsCut (cols : List Column) (cut : List (List Value)) (slots left : List (List ℕ)) : Type 0 where
  pub back : (put : List (List Value)) (end : Option (List (List ℕ))) → Drafts cols [] put left end → Drafts cols cut put slots end
  pub forth : (put : List (List Value)) (end : Option (List (List ℕ))) → Drafts cols cut put slots end → Drafts cols [] put left end
  pub front : slot_at left 0 ≡ slot_at slots 0

-- a row is put where it goes
pub record PutsRow (cols : List Column) (slots : List (List ℕ)) (row : List Value) (left : List (List ℕ)) : Type 0 where
  pub at : ℕ
  pub goes : Goes cols slots row at
  pub room : used (edited slots at (row_bytes row)) ≤ 8192
  pub is : left ≡ edited slots at (row_bytes row)

-- a row finds no room where it goes
pub record FindsNoRoom (cols : List Column) (slots : List (List ℕ)) (row : List Value) : Type 0 where
  pub at : ℕ
  pub goes : Goes cols slots row at
  pub lacks : 8192 < used (edited slots at (row_bytes row))

-- all rows are put into a draft, and its slot 0 stays
pub record ArePut (cols : List Column) (put : List (List Value)) (slots : List (List ℕ)) (rows : Rows) (left : List (List ℕ)) : Type 0 where
  pub puts : Puts cols put slots (Some left)
  pub only : ¬ Puts cols put slots None
  pub front : slot_at left 0 ≡ slot_at slots 0
  pub rows_are : rows_in cols (slot_at left) ≡ Some (put_rows cols put rows)

-- all keys are cut from a page and all rows put into it: this page comes of it, and nothing else
pub record IsDrafted (cols : List Column) (cut put : List (List Value)) (slots : List (List ℕ)) (rows : Rows) (left : List (List ℕ)) : Type 0 where
  pub drafts : Drafts cols cut put slots (Some left)
  pub only : ¬ Drafts cols cut put slots None
  pub front : slot_at left 0 ≡ slot_at slots 0
  pub rows_are : rows_in cols (slot_at left) ≡ Some (put_rows cols put (cut_rows cut rows))

-- the edit of a slot is planned in its pass, where it changes the slot
pub data Adds (old new : List Edit) (e : Edit) (before : List ℕ) (growing : Bool) : Type 0 where
  Other : nat_lt (length before) (length e.bytes) ≢ growing → new ≡ old → Adds old new e before growing
  Stays : nat_lt (length before) (length e.bytes) ≡ growing → e.bytes ≡ before → new ≡ old → Adds old new e before growing
  Changes : nat_lt (length before) (length e.bytes) ≡ growing → e.bytes ≢ before → new ≡ old ++ e ∷ [] → Adds old new e before growing

-- the edits of one page lead from its slots to others, each fits in turn, and other pages stay
pub record Differs (p : PageId) (slots left : List (List ℕ)) (edits : List Edit) : Type 0 where
  pub turn : AreInTurn p slots edits
  pub fits : (c : PageId → List (List ℕ)) → c p ≡ slots → FitIn c edits
  pub changes : (s : Slots) → s p ≡ slot_at slots → Change s edits
  pub leads : (s : Slots) → s p ≡ slot_at slots → (j : ℕ) → done edits s p j ≡ slot_at left j
  pub others : (s : Slots) (q : PageId) → q ≢ p → done edits s q ≡ s q
