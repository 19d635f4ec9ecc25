-- A table as a tree of typed pages: what the slots of each page are read as, and the tree of these rows.
use Rattle.std.specs.Prelude.{Bool, true, ◌≡◌, ◌≢◌, ◌≤◌, Option, None, Some, if◌then◌else◌, ℕ, suc, List, [], ◌∷◌, length, take, drop, map}
use Rattle.std.specs.List.{range_with_len}
use Rattle.page_base.specs.declared.column.Column.{Column}
use Rattle.page_base.specs.declared.limits.TheConstants.{MAX_KEY_BYTES}
use Rattle.page_base.specs.declared.numbers.PageId.{PageId}
use Rattle.page_fmt.specs.Seen.{SlotsAt}
use Rattle.plain_model.specs.Tables.{Rows as Map, key_size}
use Rattle.row_fmt.specs.Keys.{Part, column_parts, KeysStand}
use Rattle.table_walk.specs.Addresses.{page_at}
use Rattle.table_walk.specs.Leaves.{cell, ByKeys}
use Rattle.table_walk.specs.Tables.{MayPut}
use Rattle.tree_laws.specs.Keys.{Key, key_columns, key_at}
use Rattle.tree_laws.specs.Kids.{least_at, level_of}
use Rattle.tree_laws.specs.Order.{ascend}
use Rattle.tree_laws.specs.Sheets.{Entry, Sheet, spelled_key}
use Rattle.tree_laws.specs.Sheets.Sheet.{Rows, Inner}
use Rattle.tree_laws.specs.Trees.{inside, rows_of, pages_of, times}
use Rattle.tree_laws.specs.Typed.{IsSound}

-- columns of which some are a key: at the places from 1 on, each once, and none may be NULL
pub record HasKey (cols : List Column) : Type 0 where
  pub some : 1 ≤ key_size cols
  pub few : key_size cols ≤ 255
  pub places : map (λ (part : Part Column). part.0) (column_parts cols) ≡ range_with_len 1 (key_size cols)
  pub stand : KeysStand cols

-- a key that is spelled within the limit, and read again
pub record IsKey (cols : List Column) (key : Key) : Type 0 where
  pub reads : key_at (key_columns cols) (spelled_key (Some key)) ≡ Some key
  pub some : spelled_key (Some key) ≢ []
  pub short : length (spelled_key (Some key)) ≤ MAX_KEY_BYTES

-- the slot of an entry, or an empty one
abbrev pub IsIn : List Column → List ℕ → Option Entry → Type 0
IsIn keys x None = x ≡ []
IsIn keys x (Some e) = (x ≢ []) × (page_at (take 5 x) ≡ Some e.page) × (least_at keys (drop 5 x) ≡ Some e.least)

abbrev pub AreIn : List Column → List (List ℕ) → List (Option Entry) → Type 0
AreIn keys [] [] = Unit {0}
AreIn keys [] (e ∷ es) = ⊥
AreIn keys (x ∷ xs) [] = ⊥
AreIn keys (x ∷ xs) (e ∷ es) = IsIn keys x e × AreIn keys xs es

-- these slots are read as this page
abbrev pub Reads : List Column → List (List ℕ) → Sheet → Type 0
Reads cols slots (Rows leaf) = slots ≡ map cell leaf
Reads cols slots (Inner level es) = (level_of slots ≡ level) × AreIn (key_columns cols) (drop 1 slots) es

-- so is each page that is owned
abbrev pub AreRead : List Column → SlotsAt → (PageId → Bool) → (PageId → Sheet) → Type 0
AreRead cols at owns sheets = (p : PageId) → owns p ≡ true → Reads cols (at p) (sheets p)

-- the pages that are owned are a tree of these rows; those that are looked at have room
pub record IsTree (cols : List Column) (looked : PageId → Bool) (sheets : PageId → Sheet) (root : PageId) (owns : PageId → Bool) (rows : Map) : Type 0 where
  pub level : ℕ
  pub sound : IsSound (MayPut cols) (IsKey cols) looked sheets (suc level) None root
  pub order : ascend (inside cols sheets (suc level) root) ≡ true
  pub by_keys : ByKeys cols (rows_of cols sheets (suc level) root) rows
  pub owned : (p : PageId) → times p (pages_of sheets (suc level) root) ≡ (if owns p then 1 else 0)
