use Rattle.page_draft.proofs.CodeLemmas.{pages_more, pages_end}
use Rattle.page_draft.proofs.edits.edits_of.Goals as goal

pub loop-page-preserved : goal.loop-page-preserved
loop-page-preserved c =
    pages_more c.args.seen.now c.args.pages.now c.loop-page.page-index c.loop-page.edits c.add_page.new.edits c.page-item.result c.loop-page.invariant c.loop-page-test.true c.page-item.is c.in_ok-add_page.ensures.room c.in_ok-add_page.ensures.edits

pub returns-clause-edits : goal.returns-clause-edits
returns-clause-edits c = (pages_end c.args.seen.now c.args.pages.now c.loop-page.page-index c.loop-page.edits c.loop-page.invariant c.loop-page-test.false).0

pub returns-clause-room : goal.returns-clause-room
returns-clause-room c = (pages_end c.args.seen.now c.args.pages.now c.loop-page.page-index c.loop-page.edits c.loop-page.invariant c.loop-page-test.false).1
