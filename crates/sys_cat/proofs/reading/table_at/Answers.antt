use Rattle.sys_cat.specs.Lines.{table_line}
use Rattle.sys_cat.proofs.ReadLemmas.{table_line_is, at_none}
use Rattle.sys_cat.proofs.reading.table_at.Goals as goal

pub returns-in_err-line : goal.returns-in_err-line
returns-in_err-line c = at_none c.from_residual.result _ _ c.from_residual.ensures (λ d head follows. c.in_err-line.ensures (table_line d) (table_line_is d head))
