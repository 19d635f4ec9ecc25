-- What is said of a statement over its table.
use Rattle.std.specs.Prelude.{◌≡◌, ℕ, List, ◌++◌, map, Some, None}
use Rattle.page_base.specs.declared.value.Value.{Value}
use Rattle.plain_model.specs.declared.stmt.Stmt.{Stmt}
use Rattle.plain_model.specs.Statements.{shape_over, data_over, table_named}
use Rattle.plain_model.specs.Tables.{Table, Change, Put, Cut}
use Rattle.stmt_eval.specs.declared.effect.Effect.{Effect}
use Rattle.stmt_eval.specs.declared.effect.Verdict.{Verdict}
use Rattle.stmt_eval.specs.declared.effect.Verdict.TheVariants.{Refused, Does}

-- the rows to put and the keys to cut, as changes of a table
abbrev pub changes_in : List ℕ → Effect → List Change
changes_in name effect = map (Put name) effect.puts ++ map (Cut name) effect.cuts

-- the effect is what the statement means over its table
abbrev pub IsEffect : Stmt → Table → Effect → Type 0
IsEffect stmt t effect = data_over stmt t ≡ (changes_in (table_named stmt) effect, effect.reply)

-- the statement is refused by its shape, or suits its table and has this effect
abbrev pub IsVerdict : Stmt → Table → Verdict → Type 0
IsVerdict stmt t (Refused m) = shape_over stmt (Some t) ≡ Some m
IsVerdict stmt t (Does effect) = (shape_over stmt (Some t) ≡ None) × IsEffect stmt t effect
