use Rattle.std.proofs.Common.{List}
use Rattle.page_base.specs.declared.column.Column.{Column}
use Rattle.page_fmt.specs.Content.{content, IsPage}
use Rattle.plain_model.specs.Tables.{Rows}
use Rattle.table_pages.specs.Drafting.{IsDraft, AreFull}
use Rattle.table_pages.proofs.DraftLemmas.{CutSoFar}
use Rattle.table_pages.proofs.draft.Draft.cut_all.Given as goal

abbrev pub invariant-loop-key : goal.invariant-loop-key
invariant-loop-key l = record {
  page : IsPage l.self.page;
  full : AreFull (content l.self.page) l.self.full;
  so_far : (cols : List Column) (rows : Rows) → IsDraft cols l.fn.self.page l.fn.self.index rows → CutSoFar cols l.keys l.fn.self.page rows l.self.page l.self.index l.key-index;
}
