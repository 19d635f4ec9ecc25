use Rattle.std.proofs.Common.{length}
use Rattle.sql_form.specs.Form.{Many}
use Rattle.sql_form.specs.Read.{read}
use Rattle.sql_form.specs.Rules.{strict}
use Rattle.sql_lex.specs.declared.token.Mark.TheVariants as mark
use Rattle.sql_stmt.specs.Pieces.{sign}
use Rattle.sql_stmt.proofs.ListLemmas.{Run}
use Rattle.sql_stmt.proofs.batch.semicolons.Given as goal

abbrev pub invariant-semicolons : goal.invariant-semicolons
invariant-semicolons l = Run (sign mark.Semicolon) l.tokens (read strict (Many (sign mark.Semicolon)) l.initial.tokens)

abbrev pub decreases-semicolons : goal.decreases-semicolons
decreases-semicolons l = length l.tokens
