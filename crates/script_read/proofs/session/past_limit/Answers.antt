use Rattle.std.proofs.Common.{arith, ◌-◌}
use Rattle.script_read.proofs.Batches.{text_place}
use Rattle.script_read.proofs.session.past_limit.Goals as goal

pub line_of-requires-clause-there : goal.line_of-requires-clause-there
line_of-requires-clause-there c =
    let says = c.requires.says in
    let few = c.requires.few in
    let many = c.if-count-room.false in
    text_place c.args.batch.now.bytes.now says.0 (20000 - c.args.said) says.1 (omega (arith, says.2, few, many))
