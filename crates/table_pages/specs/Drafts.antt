-- A draft of a page's slots, from which keys are cut and into which rows are put, one at a time.
use Rattle.std.specs.Prelude.{◌≡◌, ◌≢◌, ◌⊎◌, ℕ, ◌<◌, ◌≤◌, List, [], ◌∷◌, Option, Some, None}
use Rattle.page_base.specs.declared.column.Column.{Column}
use Rattle.page_base.specs.declared.value.Value.{Value}
use Rattle.page_fmt.specs.Spelling.{used}
use Rattle.page_fmt.specs.Edits.{edited, slot_at}
use Rattle.row_fmt.specs.Rows.{row_bytes}
use Rattle.plain_model.specs.Tables.{key_of}
use Rattle.table_pages.specs.Rows.{row_of}

-- slot i is a row of this key
pub record IsKeyAt (cols : List Column) (slots : List (List ℕ)) (key : List Value) (i : ℕ) : Type 0 where
  pub row : List Value
  pub low : 0 < i
  pub full : slot_at slots i ≢ []
  pub is : row_of cols (slot_at slots i) ≡ Some row
  pub keyed : key_of cols row ≡ key

-- no slot is a row of this key
abbrev pub LacksKey : List Column → List (List ℕ) → List Value → Type 0
LacksKey cols slots key = (i : ℕ) → ¬ IsKeyAt cols slots key i

-- the first slot behind slot 0 that is empty
pub record IsFirstEmpty (slots : List (List ℕ)) (i : ℕ) : Type 0 where
  pub low : 0 < i
  pub empty : slot_at slots i ≡ []
  pub first : (j : ℕ) → 0 < j → j < i → slot_at slots j ≢ []

-- what is left where a key is cut: the slot of its row is emptied, where there is one
pub data Cuts (cols : List Column) (slots : List (List ℕ)) (key : List Value) (left : List (List ℕ)) : Type 0 where
  There : (i : ℕ) → IsKeyAt cols slots key i → left ≡ edited slots i [] → Cuts cols slots key left
  Absent : LacksKey cols slots key → left ≡ slots → Cuts cols slots key left

-- where a row goes: to the slot of its key, or where its key isn't there to the first empty slot
pub data Goes (cols : List Column) (slots : List (List ℕ)) (row : List Value) (i : ℕ) : Type 0 where
  Over : IsKeyAt cols slots (key_of cols row) i → Goes cols slots row i
  Beside : LacksKey cols slots (key_of cols row) → IsFirstEmpty slots i → Goes cols slots row i

-- what becomes of rows that are put: these slots, or none where a row finds no room in its turn
abbrev pub Puts : List Column → List (List Value) → List (List ℕ) → Option (List (List ℕ)) → Type 0
Puts cols [] slots end = end ≡ Some slots
Puts cols (row ∷ rows) slots end = (i : ℕ) × Goes cols slots row i × (
    (8192 < used (edited slots i (row_bytes row)) × (end ≡ None))
    ⊎ ((used (edited slots i (row_bytes row)) ≤ 8192) × Puts cols rows (edited slots i (row_bytes row)) end))

-- what becomes of a draft: the keys are cut, and then the rows are put
abbrev pub Drafts : List Column → List (List Value) → List (List Value) → List (List ℕ) → Option (List (List ℕ)) → Type 0
Drafts cols [] rows slots end = Puts cols rows slots end
Drafts cols (key ∷ keys) rows slots end = (left : List (List ℕ)) × Cuts cols slots key left × Drafts cols keys rows left end

-- once the keys are cut, a row finds no room in its turn
abbrev pub LacksRoom : List Column → List (List Value) → List (List Value) → List (List ℕ) → Type 0
LacksRoom cols keys rows slots = Drafts cols keys rows slots None
