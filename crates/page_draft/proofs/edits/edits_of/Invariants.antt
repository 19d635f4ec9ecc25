use Rattle.page_draft.proofs.CodeLemmas.{PagesSoFar}
use Rattle.page_draft.proofs.edits.edits_of.Given as goal

abbrev pub invariant-loop-page : goal.invariant-loop-page
invariant-loop-page l = PagesSoFar l.seen l.pages l.page-index l.edits
