use Rattle.std.proofs.Common.{◌≡◌, drop}
use Rattle.page_draft.specs.Drafts.{fits_in}
use Rattle.page_draft.proofs.page.fit.Given as goal

abbrev pub invariant-loop-cell : goal.invariant-loop-cell
invariant-loop-cell l = fits_in 8096 l.cells ≡ fits_in l.left (drop l.cell-index l.cells)
