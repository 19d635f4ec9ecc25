use Rattle.std.proofs.Common.{length, zero-add}
use Rattle.sql_lex.proofs.Ending.{ends_once}
use Rattle.sql_lex.proofs.law.tokens_have_one_end.Goals as goal

pub returns : goal.returns
returns c = λ batch ts h. rw (zero-add (length batch)) at (ends_once 0 batch ts h)
