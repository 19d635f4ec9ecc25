use Rattle.std.specs.Prelude.{None, Some}
use Rattle.sql_lex.proofs.Cutting.{left_piece, passes_on, token_cut}
use Rattle.sql_lex.proofs.tokens.token_from.Goals as goal

pub pieces-preserved : goal.pieces-preserved
pieces-preserved c = passes_on c.args.batch.now c.args.from c.pieces.at _ c.pieces.invariant (left_piece c.args.batch.now c.pieces.at c.piece-what.result None c.piece-what.ensures.value c.in-None.is)

pub returns-in-Some-clause-tokens : goal.returns-in-Some-clause-tokens
returns-in-Some-clause-tokens c =
    token_cut c.args.batch.now c.args.from c.pieces.at c.piece-what.result.1 c.in-Some.kind c.pieces.invariant.same (left_piece c.args.batch.now c.pieces.at c.piece-what.result (Some c.in-Some.kind) c.piece-what.ensures.value c.in-Some.is)
