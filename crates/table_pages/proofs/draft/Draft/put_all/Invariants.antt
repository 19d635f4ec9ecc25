use Rattle.page_fmt.specs.Content.{content, IsPage}
use Rattle.plain_model.specs.Tables.{Rows}
use Rattle.table_pages.specs.Drafting.{IsDraft, AreFull}
use Rattle.table_pages.proofs.DraftLemmas.{PutSoFar}
use Rattle.table_pages.proofs.draft.Draft.put_all.Given as goal

abbrev pub invariant-loop-row : goal.invariant-loop-row
invariant-loop-row l = record {
  page : IsPage l.self.page;
  full : AreFull (content l.self.page) l.self.full;
  so_far : (old : Rows) → IsDraft l.cols l.fn.self.page l.fn.self.index old → PutSoFar l.cols l.rows l.fn.self.page old l.self.page l.self.index l.row-index;
}
