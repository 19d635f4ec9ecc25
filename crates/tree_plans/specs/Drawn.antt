-- Drafted pages that show what cutting keys and putting rows makes of the pages of a tree.
use Rattle.std.specs.Prelude.{Bool, true, ◌≡◌, ◌<◌, ◌≤◌, Some, ℕ, List, [], ◌∷◌}
use Rattle.page_base.specs.declared.column.Column.{Column}
use Rattle.page_base.specs.declared.numbers.PageId.{PageId}
use Rattle.page_base.specs.declared.value.Value.{Value}
use Rattle.page_fmt.specs.Seen.{SlotsAt, Looked}
use Rattle.plain_model.specs.Tables.{Rows}
use Rattle.page_draft.specs.Drafts.{Drafted, slots_of, cell_at, old_of}
use Rattle.page_draft.specs.Made.{AreOthers}
use Rattle.table_walk.specs.declared.plan.Spot.{Spot}
use Rattle.table_walk.specs.declared.plan.Spot.TheVariants.{Old, New}
use Rattle.table_walk.specs.Plans.{place, also}
use Rattle.tree_laws.specs.Keys.{Key}
use Rattle.tree_laws.specs.Paths.{CutPaths, PutPaths, HasRoom}
use Rattle.tree_laws.specs.Puts.{cut_keys, placed, level_in}
use Rattle.tree_laws.specs.Sheets.{Sheet, slots_in, entries_in}
use Rattle.tree_laws.specs.Sheets.Sheet.{Inner}
use Rattle.tree_laws.specs.Trees.{Each}
use Rattle.tree_plans.specs.Planning.{IsWorld, IsTyped}

-- a slot of this page may name a claimed page: one behind the first of a page of entries, or any of a page that is claimed
abbrev pub MayName : ℕ → Spot → Sheet → Type 0
MayName i (Old p) x = (1 ≤ i) × (x ≡ Inner (level_in x) (entries_in x))
MayName i (New k) x = k ≡ k

-- a page that is there is the table's, another one is claimed
abbrev pub IsOwned : (PageId → Bool) → ℕ → Spot → Type 0
IsOwned owns n (Old p) = owns p ≡ true
IsOwned owns n (New k) = k < n

-- a drafted page shows what its page becomes
pub record IsShown (claimed : ℕ → PageId) (n : ℕ) (at : SlotsAt) (owns : PageId → Bool) (seen : List Looked) (looked : PageId → Bool) (before later : PageId → Sheet) (d : Drafted) : Type 0 where
  pub looks : looked (place claimed d.spot) ≡ true
  pub within : also owns claimed n (place claimed d.spot) ≡ true
  pub were : at (place claimed d.spot) ≡ old_of seen d.spot
  pub owned : IsOwned owns n d.spot
  pub slots : slots_of claimed d.cells ≡ slots_in (later (place claimed d.spot))
  pub level : level_in (later (place claimed d.spot)) < 4294967296
  pub names : (i j : ℕ) → (cell_at d.cells i).names ≡ Some j → (j < n) × MayName i d.spot (before (place claimed d.spot))

-- no two are of one page
abbrev pub AreApart : (ℕ → PageId) → List Drafted → Type 0
AreApart claimed [] = Unit {0}
AreApart claimed (d ∷ ds) = AreOthers claimed (place claimed d.spot) ds × AreApart claimed ds

-- the pages that are looked at while keys are cut and rows are put are drafted, and all others stay as they are
pub record IsDrawn (cols : List Column) (seen : List Looked) (root : PageId) (cut : List Key) (put : List (List Value)) (n : ℕ) (ds : List Drafted) (at : SlotsAt) (owns : PageId → Bool) (claimed : ℕ → PageId) (sheets : PageId → Sheet) : Type 0 where
  pub looked : PageId → Bool
  pub room : (p : PageId) → owns p ≡ true → looked p ≡ true → HasRoom cols (sheets p)
  pub cuts : CutPaths cols looked root cut (record { sheets = sheets; claims = 0 })
  pub puts : PutPaths cols looked claimed root put (cut_keys cols root cut (record { sheets = sheets; claims = 0 }))
  pub claims : (placed cols claimed root cut put sheets).claims ≡ n
  pub shown : Each (IsShown claimed n at owns seen looked sheets (placed cols claimed root cut put sheets).sheets) ds
  pub apart : AreApart claimed ds
  pub others : (p : PageId) → also owns claimed n p ≡ true → AreOthers claimed p ds → (owns p ≡ true) × ((placed cols claimed root cut put sheets).sheets p ≡ sheets p)

-- so it is for whatever pages these are
abbrev pub Draws : List Column → List Looked → PageId → List Key → List (List Value) → ℕ → List Drafted → Type 0
Draws cols seen root cut put n ds =
    (at : SlotsAt) (owns : PageId → Bool) (rows : Rows) (claimed : ℕ → PageId) (sheets : PageId → Sheet) → IsWorld cols seen root n at owns rows claimed → IsTyped cols root at owns rows sheets
    → IsDrawn cols seen root cut put n ds at owns claimed sheets
