-- A root that is told later: a table's row in table 0 is planned with any root, and gets the true one once that is claimed.
use Rattle.std.specs.Prelude.{ℕ, List, [], ◌∷◌, ◌++◌}
use Rattle.std.specs.List.{AllPairs}
use Rattle.page_base.specs.declared.numbers.PageId.{PageId}
use Rattle.page_fmt.specs.Seen.{SlotsAt}
use Rattle.row_fmt.specs.Rows.{row_bytes}
use Rattle.sys_cat.specs.declared.desc.TableDesc.{TableDesc}
use Rattle.sys_cat.specs.Rows.{zero_root, table_row}
use Rattle.table_walk.specs.declared.plan.Edit.{Edit}
use Rattle.table_walk.specs.declared.plan.Spot.{Spot}
use Rattle.table_walk.specs.declared.visit.Visit.{Visit}
use Rattle.table_walk.specs.Differences.{edit_at}
use Rattle.table_walk.specs.Filling.{IsLeafOf}
use Rattle.table_walk.specs.Plans.{after, IsOtherSlot}
use Rattle.table_walk.specs.Walk.{IsWalk, Reaches}
use Rattle.page_tables.specs.Layout.{shape, first}

-- the same table with another root
abbrev pub rooted : TableDesc → PageId → TableDesc
rooted d root = record { name = d.name; number = d.number; root = root; cols = d.cols }

-- edits of which one writes the row that tells of a table itself, and no column
abbrev pub telling : List Edit → Spot → ℕ → TableDesc → List Edit → List Edit
telling before spot slot d later = before ++ edit_at spot (slot, row_bytes (table_row d)) ∷ later

-- No slot of table 0 is edited twice, and this page holds rows behind the edits, and before them where the table has it then.
pub record IsOnRows (claimed : ℕ → PageId) (at : SlotsAt) (edits : List Edit) (p : PageId) : Type 0 where
  pub once : AllPairs (IsOtherSlot claimed) edits
  pub was : (done : List Visit) → IsWalk shape.kids at (first zero_root) done [] → Reaches done p → IsLeafOf done p
  pub is : (done : List Visit) → IsWalk shape.kids (after claimed at edits) (first zero_root) done [] → IsLeafOf done p
