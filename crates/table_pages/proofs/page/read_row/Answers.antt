use Rattle.std.proofs.Common.{◌∙◌, ap, sym, subst, arith}
use Rattle.std.specs.Prelude.{Some, Err}
use Rattle.row_fmt.specs.declared.refusal.RowRefusal.{RowRefusal}
use Rattle.row_fmt.specs.Answers.{GivesRow}
use Rattle.table_pages.proofs.RowLemmas.{row_is_read, row_is_spelled}
use Rattle.table_pages.proofs.page.read_row.Goals as goal

pub returns-in-Ok-clause-row : goal.returns-in-Ok-clause-row
returns-in-Ok-clause-row c = λ row e. sym (row_is_read c.args.cols.now c.args.bytes.now c.in-Ok.row c.in-Ok.ensures.row) ∙ e

pub returns-in-Err-Form-clause-row : goal.returns-in-Err-Form-clause-row
returns-in-Err-Form-clause-row c = λ row e.
    absurd (subst (λ (why : RowRefusal). GivesRow row (Err why)) c.in-Err-Form.field-0-is (c.in-Err-Form.ensures.only row (row_is_spelled c.args.cols.now c.args.bytes.now row (λ i. omega (arith, c.type_inv.bytes i)) e)))
