use Rattle.std.proofs.Common.{◌≡◌}
use Rattle.std.specs.Prelude.{Some}
use Rattle.page_fmt.specs.Content.{content}
use Rattle.page_fmt.specs.Edits.{slot_at}
use Rattle.plain_model.specs.Tables.{Rows}
use Rattle.table_pages.specs.Layout.{rows_in}
use Rattle.table_pages.proofs.IndexLemmas.{Indexed}
use Rattle.table_pages.proofs.draft.index_of.Given as goal

abbrev pub invariant-loop-i : goal.invariant-loop-i
invariant-loop-i l = (rows : Rows) → rows_in l.cols (slot_at (content l.image)) ≡ Some rows → Indexed l.cols (content l.image) l.index l.i
