use Rattle.std.proofs.Common.{ap}
use Rattle.sql_expr.specs.Rules.{strict}
use Rattle.sql_expr.proofs.Lists.{has}
use Rattle.sql_expr.proofs.Taking.{enter_joined}
use Rattle.sql_expr.proofs.steps.enter.Goals as goal

pub returns : goal.returns
returns c = λ names n now spare stack. enter_joined names strict n c.args.level stack now spare c.args.tokens.now c.requires (ap has c.role_ahead-role.ensures.cons)
