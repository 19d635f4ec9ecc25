-- A layout in which a row may give way to another of its key and its size: its leaves name no page, and what it keeps
-- beside its rows depends on their keys alone.
use Rattle.std.specs.Prelude.{true, Ok, ◌≡◌, ℕ, ◌<◌, List, [], length}
use Rattle.std.specs.List.{Any}
use Rattle.page_base.specs.declared.column.Column.{Column}
use Rattle.page_base.specs.declared.numbers.PageId.{PageId}
use Rattle.page_base.specs.declared.value.Value.{Value}
use Rattle.page_base.specs.Pages.{set_at}
use Rattle.page_fmt.specs.Edits.{edited, slot_at}
use Rattle.page_fmt.specs.Seen.{SlotsAt, look}
use Rattle.plain_model.specs.Tables.{key_of}
use Rattle.row_fmt.specs.Rows.{IsRowOf, row_bytes}
use Rattle.table_walk.specs.declared.visit.Visit.{Visit}
use Rattle.table_walk.specs.Tables.{is_leaf, Shape, shown, IsSmall}
use Rattle.table_walk.specs.Walk.{IsWalk}

-- another row of the same key, in as many bytes, of which there are some
pub record IsLike (cols : List Column) (row other : List Value) : Type 0 where
  pub of : IsRowOf cols row
  pub other_of : IsRowOf cols other
  pub small : IsSmall cols other
  pub key : key_of cols other ≡ key_of cols row
  pub size : length (row_bytes other) ≡ length (row_bytes row)
  pub some : 0 < length (row_bytes row)

-- this page holds rows in a walk
abbrev pub IsLeafOf : List Visit → PageId → Type 0
IsLeafOf done p = Any (λ v. (v.page ≡ p) × (is_leaf v ≡ true)) done

pub record KeepsByKeys (shape : Shape) : Type 0 where
  pub leaves : (v : Visit) (slots : List (List ℕ)) → is_leaf v ≡ true → shape.kids v slots ≡ Ok []
  pub keeps : (cols : List Column) (start : Visit) (at : SlotsAt) (done : List Visit) (p : PageId) (i : ℕ) (row other : List Value)
      → IsWalk shape.kids at start done [] → IsLeafOf done p → slot_at (at p) i ≡ row_bytes row → IsLike cols row other
      → shape.keeps cols start (look (shown at done)) ≡ true → shape.keeps cols start (look (shown (set_at at p (edited (at p) i (row_bytes other))) done)) ≡ true
