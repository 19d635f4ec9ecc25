-- The new rows are what the statement means.
use Rattle.std.proofs.Common.{◌≡◌, ℕ, List, map, subst}
use Rattle.std.proofs.lemmas.Result.{IfOk-weaker}
use Rattle.page_base.specs.declared.column.Column.{Column}
use Rattle.page_base.specs.declared.value.Value.{Value}
use Rattle.plain_model.specs.Inserting.{target_names, new_row, inserted_from}
use Rattle.plain_model.specs.Statements.{changes_of}
use Rattle.plain_model.specs.Tables.{Put, key_of}
use Rattle.stmt_eval.specs.Given.{Takes}
use Rattle.stmt_eval.specs.Verdicts.{changes_in}
use Rattle.stmt_eval.proofs.TableLemmas.{of_keys}
use Rattle.stmt_eval.proofs.statements.insert_effect.Goals as goal

pub returns : goal.returns
returns c =
    let stmt = c.args.stmt.now in
    IfOk-weaker c.puts.result _ _ (λ effect h t is.
    of_keys (λ (cols : List Column) (keys : List (List Value)). changes_of (Put stmt.table) (inserted_from cols keys 1 (map (new_row (target_names stmt.cols cols) cols) stmt.rows)) ≡ (changes_in stmt.table effect, effect.reply)) c.args.cols.now c.args.rows.now t is
    (h stmt.table _ (subst (λ (names : List (List ℕ)). Takes c.inserted-taken.result (inserted_from c.args.cols.now (map (key_of c.args.cols.now) c.args.rows.now) 1 (map (new_row names c.args.cols.now) stmt.rows))) c.in_ok-names.ensures c.inserted-taken.ensures))) c.puts.ensures
