use Rattle.std.proofs.Common.{inr}
use Rattle.std.proofs.lemmas.Result.{IfOk-weaker}
use Rattle.script_read.proofs.session.statements.Goals as goal

pub returns-in-Err-Syntax-clause-ok : goal.returns-in-Err-Syntax-clause-ok
returns-in-Err-Syntax-clause-ok c = IfOk-weaker c.broken.result _ _ (λ stmts is. inr (c.in-Err-Syntax.at, rw (c.in-Err-Syntax.is, c.in-Err-Syntax.field-0-is) at c.parse.ensures.syntax, is)) c.broken.ensures.ok
