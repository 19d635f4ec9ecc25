use Rattle.std.proofs.Common.{◌∙◌, sym}
use Rattle.table_def.proofs.Good.{good_result}
use Rattle.table_def.proofs.columns.columns_of.Goals as goal

pub returns-clause-good : goal.returns-clause-good
returns-clause-good c =
    good_result c.args.parts.now c.columns_beside.result c.requires (sym c.is_bad.ensures ∙ c.if-is_bad.false) (rw c.key_of.ensures at c.columns_beside.ensures)
