use Rattle.sql_read.specs.StmtPlace.{LacksStmt}
use Rattle.script_read.proofs.session.line_of.Goals as goal

pub unreachable-requires : goal.unreachable-requires
unreachable-requires c =
    let lacks : LacksStmt c.args.batch.now.bytes.now c.args.number c.in-Err-Syntax.field-0-0 = rw (c.in-Err-Syntax.is, c.in-Err-Syntax.field-0-is) at c.statement_place.ensures.syntax in
    lacks.none c.requires.there.0 c.requires.there.1
