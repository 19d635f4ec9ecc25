-- What a plan of a tree promises: the table of rows that it leaves, and the page and slot of each row and entry.
use Rattle.std.specs.Prelude.{Bool, false, ◌≡◌, All, ℕ, List}
use Rattle.std.specs.List.{AllPairs}
use Rattle.page_base.specs.declared.column.Column.{Column}
use Rattle.page_base.specs.declared.numbers.PageId.{PageId}
use Rattle.page_base.specs.declared.value.Value.{Value}
use Rattle.page_fmt.specs.Seen.{SlotsAt, Looked, Shows}
use Rattle.plain_model.specs.Tables.{Rows}
use Rattle.table_walk.specs.declared.plan.Edit.{Edit}
use Rattle.table_walk.specs.Plans.{after, also, AreFree, IsBelow, IsOtherSlot, Carries, cut_all, put_all}
use Rattle.tree_laws.specs.Keys.{Key}
use Rattle.tree_laws.specs.Kids.{first}
use Rattle.tree_laws.specs.Order.{RowsAt, tree_shape}
use Rattle.tree_laws.specs.Puts.{placed}
use Rattle.tree_laws.specs.Reads.{AreRead, IsTree}
use Rattle.tree_laws.specs.Sheets.{Sheet}

-- these pages are a table, of which some were read, and so many free pages are claimed
pub record IsWorld (cols : List Column) (seen : List Looked) (root : PageId) (n : ℕ) (at : SlotsAt) (owns : PageId → Bool) (rows : Rows) (claimed : ℕ → PageId) : Type 0 where
  pub table : RowsAt cols at owns root rows
  pub shows : Shows seen at
  pub free : AreFree claimed n at owns

-- and read as typed pages they are these
pub record IsTyped (cols : List Column) (root : PageId) (at : SlotsAt) (owns : PageId → Bool) (rows : Rows) (sheets : PageId → Sheet) : Type 0 where
  pub read : AreRead cols at owns sheets
  pub tree : IsTree cols (λ p. false) sheets root owns rows

-- Over pages that are a table, and whatever free pages are claimed, the edits carry the table to its rows without those
-- that are cut and with those that are put, and each row and entry to its page and slot; so many pages are claimed as that
-- takes, and no slot is edited twice. Whatever was read, the edits speak of the first n claimed pages alone.
pub record Promises (cols : List Column) (seen : List Looked) (root : PageId) (cut : List Key) (put : List (List Value)) (n : ℕ) (edits : List Edit) : Type 0 where
  pub carries : (at : SlotsAt) (owns : PageId → Bool) (rows : Rows) (claimed : ℕ → PageId) → IsWorld cols seen root n at owns rows claimed
      → Carries (tree_shape cols) cols (first root) claimed n at owns edits (put_all cols put (cut_all cut rows))
  pub places : (at : SlotsAt) (owns : PageId → Bool) (rows : Rows) (claimed : ℕ → PageId) (sheets : PageId → Sheet) → IsWorld cols seen root n at owns rows claimed → IsTyped cols root at owns rows sheets
      → AreRead cols (after claimed at edits) (also owns claimed n) (placed cols claimed root cut put sheets).sheets
  pub claims : (at : SlotsAt) (owns : PageId → Bool) (rows : Rows) (claimed : ℕ → PageId) (sheets : PageId → Sheet) → IsWorld cols seen root n at owns rows claimed → IsTyped cols root at owns rows sheets
      → (placed cols claimed root cut put sheets).claims ≡ n
  pub once : (at : SlotsAt) (owns : PageId → Bool) (rows : Rows) (claimed : ℕ → PageId) → IsWorld cols seen root n at owns rows claimed → AllPairs (IsOtherSlot claimed) edits
  pub numbers : All (IsBelow n) edits
