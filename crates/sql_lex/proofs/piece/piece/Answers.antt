use Rattle.sql_lex.proofs.Cutting.{len_within, len_some}
use Rattle.sql_lex.proofs.piece.piece.Goals as goal

pub returns-clause-within : goal.returns-clause-within
returns-clause-within c = rw c.front_piece.ensures (len_within c.args.bytes.now)

pub returns-clause-some : goal.returns-clause-some
returns-clause-some c = rw c.front_piece.ensures (len_some c.args.bytes.now)
