-- What is taken of the rows is what the statement means.
use Rattle.std.proofs.Common.{◌≡◌, List, map}
use Rattle.std.proofs.lemmas.Result.{IfOk-weaker}
use Rattle.page_base.specs.declared.column.Column.{Column}
use Rattle.page_base.specs.declared.value.Value.{Value}
use Rattle.plain_model.specs.Changing.{updated_row}
use Rattle.plain_model.specs.Outcomes.{taken_from}
use Rattle.plain_model.specs.Statements.{changes_of}
use Rattle.plain_model.specs.Tables.{Put}
use Rattle.stmt_eval.specs.Verdicts.{changes_in}
use Rattle.stmt_eval.proofs.TableLemmas.{of_table}
use Rattle.stmt_eval.proofs.statements.update_effect.Goals as goal

pub returns : goal.returns
returns c =
    IfOk-weaker c.puts.result _ _ (λ effect h t is.
    of_table (λ (cols : List Column) (rows : List (List Value)). changes_of (Put c.args.stmt.now.table) (taken_from 1 (map (updated_row c.args.stmt.now.sets c.args.stmt.now.filter cols) rows)) ≡ (changes_in c.args.stmt.now.table effect, effect.reply)) c.args.cols.now c.args.rows.now t is
    (h c.args.stmt.now.table _ c.taken-taken.ensures)) c.puts.ensures
