use Rattle.std.proofs.Common.{refl}
use Rattle.sql_lex.proofs.RunLemmas.{long_word}
use Rattle.sql_lex.proofs.run.word_kind.Goals as goal

pub returns-in-Err : goal.returns-in-Err
returns-in-Err c = rw (long_word c.args.word.now c.requires.form (λ name. c.in-Err.ensures name)) refl
