use Rattle.std.proofs.Common.{◌≡◌, ◌+◌}
use Rattle.page_fmt.specs.Content.{content}
use Rattle.table_pages.specs.Drafting.{AreFull}
use Rattle.table_pages.proofs.draft.Draft.empty_slot.Given as goal

abbrev pub invariant-loop-i : goal.invariant-loop-i
invariant-loop-i l = record {
  page : l.self.page ≡ l.fn.self.page;
  index : l.self.index ≡ l.fn.self.index;
  at : l.i ≡ l.self.full + 1;
  full : AreFull (content l.fn.self.page) l.self.full;
}
