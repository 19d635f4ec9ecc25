use Rattle.page_fmt.specs.Content.{content}
use Rattle.table_pages.specs.Passes.{IsPass}
use Rattle.table_pages.proofs.differing.add_edits.Given as goal

abbrev pub invariant-loop-s : goal.invariant-loop-s
invariant-loop-s l = IsPass l.page (content l.before) (content l.after) l.growing 1 l.fn.edits → IsPass l.page (content l.before) (content l.after) l.growing l.s l.edits
