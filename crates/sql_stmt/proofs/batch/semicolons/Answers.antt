use Rattle.std.proofs.Common.{◌∙◌, sym}
use Rattle.sql_lex.specs.declared.token.Mark.TheVariants as mark
use Rattle.sql_stmt.specs.Pieces.{sign}
use Rattle.sql_stmt.proofs.ListLemmas.{run_start, run_on, run_end}
use Rattle.sql_stmt.proofs.batch.semicolons.Goals as goal

pub semicolons-init : goal.semicolons-init
semicolons-init c = run_start (sign mark.Semicolon) _

pub semicolons-preserved : goal.semicolons-preserved
semicolons-preserved c = run_on mark.Semicolon _ _ _ c.semicolons.invariant (sym c.is_mark.ensures ∙ c.semicolons-test.true) c.advance.ensures

pub returns : goal.returns
returns c = run_end mark.Semicolon _ _ _ c.semicolons.invariant (sym c.is_mark.ensures ∙ c.semicolons-test.false)
