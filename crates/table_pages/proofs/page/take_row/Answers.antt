use Rattle.std.proofs.Common.{List, sym, subst}
use Rattle.std.proofs.lemmas.Result.{on_ok_weaker}
use Rattle.page_base.specs.declared.column.Column.{Column}
use Rattle.row_fmt.specs.Rows.{FitsColumns}
use Rattle.table_pages.specs.Rows.{HoldsFitting}
use Rattle.table_pages.proofs.HeldLemmas.{fitting_more}
use Rattle.table_pages.proofs.page.take_row.Goals as goal

pub returns-clause-fits : goal.returns-clause-fits
returns-clause-fits c = on_ok_weaker c.put.result
    (λ is h. subst HoldsFitting (sym is) (fitting_more c.args.table.now c.in-Some.row (subst (λ (cs : List Column). FitsColumns cs c.in-Some.row) c.cols.ensures (rw c.in-Some.is at c.in_ok-row.ensures.fits)) h))
    c.put.ensures.ok
