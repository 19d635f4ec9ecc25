use Rattle.std.proofs.Common.{refl}
use Rattle.sql_lex.proofs.RunLemmas.{name_passes, name_fails}
use Rattle.sql_lex.proofs.piece.bracketed.Goals as goal

pub closed_name-requires : goal.closed_name-requires
closed_name-requires c = c.in-Ok.ensures.0.short

pub returns-in-Ok : goal.returns-in-Ok
returns-in-Ok c = rw (c.closed_name.ensures, c.is_closed.ensures, c.in-Ok.ensures.1, name_passes c.args.letters.now c.in-Ok.ensures.0) refl

pub returns-in-Err : goal.returns-in-Err
returns-in-Err c = rw (name_fails c.args.letters.now c.in-Err.ensures) refl
