use Rattle.std.proofs.Common.{length}
use Rattle.sql_form.specs.Form.{Parts}
use Rattle.sql_form.specs.Read.{read}
use Rattle.sql_form.specs.Rules.{strict}
use Rattle.sql_stmt.proofs.ListLemmas.{Listed}
use Rattle.sql_stmt.proofs.production.list.Given as goal

abbrev pub invariant-parts : goal.invariant-parts
invariant-parts g l = Listed l.every g.P.Production.form g.P.Production.says l.parts l.spare l.tokens (read strict (Parts l.initial.spare l.every g.P.Production.form) l.initial.tokens)

abbrev pub decreases-parts : goal.decreases-parts
decreases-parts g l = length l.tokens
