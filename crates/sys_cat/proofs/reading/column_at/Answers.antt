use Rattle.sys_cat.specs.Lines.{column_line}
use Rattle.sys_cat.proofs.ReadLemmas.{column_line_is, at_none}
use Rattle.sys_cat.proofs.reading.column_at.Goals as goal

pub returns-in_err-line : goal.returns-in_err-line
returns-in_err-line c = at_none c.from_residual.result _ _ c.from_residual.ensures (λ d low kind key ord. c.in_err-line.ensures (column_line c.args.name.now c.args.ord d) (column_line_is c.args.name.now c.args.ord d c.requires ord low kind key))
