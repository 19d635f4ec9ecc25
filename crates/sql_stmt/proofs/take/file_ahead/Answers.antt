use Rattle.sql_lex.proofs.FileLemmas.{file_name_passes, file_name_fails}
use Rattle.sql_stmt.proofs.AnswerLemmas.{if_name_is}
use Rattle.sql_stmt.proofs.take.file_ahead.Goals as goal

pub returns-in-Text : goal.returns-in-Text
returns-in-Text c = rw (c.next.ensures, c.in-Text.is) (if_name_is _ _ _ _ (file_name_passes _) (file_name_fails _) c.file_name.ensures)
