use Rattle.std.proofs.Common.{◌-◌, length}
use Rattle.sql_lex.proofs.Cutting.{Passes}
use Rattle.sql_lex.proofs.tokens.token_from.Given as goal

abbrev pub invariant-pieces : goal.invariant-pieces
invariant-pieces l = Passes l.batch l.from l.at

abbrev pub decreases-pieces : goal.decreases-pieces
decreases-pieces l = length l.batch - l.at
