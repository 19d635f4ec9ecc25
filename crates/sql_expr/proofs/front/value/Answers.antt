use Rattle.std.proofs.Common.{false}
use Rattle.sql_expr.proofs.Answering.{as_read, answers_shorter, value_sound, entry_sound}
use Rattle.sql_expr.proofs.front.value.Goals as goal

pub returns-clause-answers : goal.returns-clause-answers
returns-clause-answers c = as_read c.args.names false c.args.tokens.now c.read.new.tokens c.read.result c.read.ensures

pub returns-clause-shorter : goal.returns-clause-shorter
returns-clause-shorter c = answers_shorter c.args.names false c.args.tokens.now c.read.new.tokens c.read.result (as_read c.args.names false c.args.tokens.now c.read.new.tokens c.read.result c.read.ensures)

pub returns-clause-sound : goal.returns-clause-sound
returns-clause-sound c = value_sound c.args.names c.args.tokens.now c.read.new.tokens c.read.result (as_read c.args.names false c.args.tokens.now c.read.new.tokens c.read.result c.read.ensures)

pub returns-clause-entry : goal.returns-clause-entry
returns-clause-entry c = entry_sound c.args.names c.args.tokens.now c.read.new.tokens c.read.result (as_read c.args.names false c.args.tokens.now c.read.new.tokens c.read.result c.read.ensures)
