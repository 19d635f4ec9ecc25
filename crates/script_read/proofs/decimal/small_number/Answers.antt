use Rattle.std.proofs.Common.{arith}
use Rattle.script_read.proofs.Numbers.{number_exceeds}
use Rattle.script_read.proofs.decimal.small_number.Goals as goal

pub returns-then-number-gt-MOST_SESSIONS : goal.returns-then-number-gt-MOST_SESSIONS
returns-then-number-gt-MOST_SESSIONS c = number_exceeds _ _ _ _ c.args.digits.now c.loop-digit-test.true c.loop-digit.invariant.value (omega (arith, c.saturating_sub.ensures))
