use Rattle.std.proofs.Common.{arith}
use Rattle.sql_lex.proofs.RunLemmas.{number_exceeds}
use Rattle.sql_lex.proofs.run.number.Goals as goal

pub returns-then-number-digit : goal.returns-then-number-digit
returns-then-number-digit c = number_exceeds _ _ _ _ c.args.digits.now c.loop-digit-test.true c.loop-digit.invariant.value (omega (arith, c.from-digit.ensures, c.if-number-digit.true))
