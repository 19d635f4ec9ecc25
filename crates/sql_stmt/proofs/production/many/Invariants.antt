use Rattle.std.proofs.Common.{length}
use Rattle.sql_form.specs.Form.{Many}
use Rattle.sql_form.specs.Read.{read}
use Rattle.sql_form.specs.Rules.{strict}
use Rattle.sql_stmt.proofs.ListLemmas.{Several}
use Rattle.sql_stmt.proofs.production.many.Given as goal

abbrev pub invariant-items : goal.invariant-items
invariant-items g l = Several g.P.Production.form g.P.Production.says l.items l.tokens (read strict (Many g.P.Production.form) l.initial.tokens)

abbrev pub decreases-items : goal.decreases-items
decreases-items g l = length l.tokens
