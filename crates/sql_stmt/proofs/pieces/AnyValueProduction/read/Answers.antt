use Rattle.sql_expr.specs.Read.{read_front}
use Rattle.sql_stmt.proofs.AnswerLemmas.{expr_gives}
use Rattle.sql_stmt.proofs.pieces.AnyValueProduction.read.Goals as goal

pub returns : goal.returns
unfolding read_front
returns c = expr_gives _ _ _ c.value.ensures.answers
