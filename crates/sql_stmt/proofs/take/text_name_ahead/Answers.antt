use Rattle.sql_lex.proofs.RunLemmas.{name_passes, name_fails}
use Rattle.sql_stmt.proofs.AnswerLemmas.{if_name_is}
use Rattle.sql_stmt.proofs.take.text_name_ahead.Goals as goal

pub returns-in-Text : goal.returns-in-Text
returns-in-Text c = rw (c.next.ensures, c.in-Text.is) (if_name_is _ _ _ _ (name_passes _) (name_fails _) c.name.ensures)
