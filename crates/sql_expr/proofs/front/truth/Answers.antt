use Rattle.std.proofs.Common.{true}
use Rattle.sql_expr.proofs.Answering.{as_read, answers_shorter, truth_sound}
use Rattle.sql_expr.proofs.front.truth.Goals as goal

pub returns-clause-answers : goal.returns-clause-answers
returns-clause-answers c = as_read true true c.args.tokens.now c.read.new.tokens c.read.result c.read.ensures

pub returns-clause-shorter : goal.returns-clause-shorter
returns-clause-shorter c = answers_shorter true true c.args.tokens.now c.read.new.tokens c.read.result (as_read true true c.args.tokens.now c.read.new.tokens c.read.result c.read.ensures)

pub returns-clause-sound : goal.returns-clause-sound
returns-clause-sound c = truth_sound c.args.tokens.now c.read.new.tokens c.read.result (as_read true true c.args.tokens.now c.read.new.tokens c.read.result c.read.ensures)
