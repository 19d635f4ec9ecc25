use Rattle.std.proofs.Common.{sym, ◌∙◌}
use Rattle.sql_lex.proofs.RunLemmas.{run_is_word}
use Rattle.sql_lex.proofs.run.run_kind.Goals as goal

pub word_kind-requires : goal.word_kind-requires
word_kind-requires c = record { form = run_is_word c.args.run.now (sym c.is_ascii_digit.ensures.value ∙ c.if-is_ascii_digit.false) c.requires }
