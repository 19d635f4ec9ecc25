-- What an INSERT's columns don't suit is said of the table's.
use Rattle.std.proofs.Common.{◌∙◌, ap, sym}
use Rattle.std.specs.Prelude.{Some, option_map}
use Rattle.plain_model.specs.declared.stmt.Stmt.{Stmt}
use Rattle.plain_model.specs.Messages.{plain}
use Rattle.plain_model.specs.Shapes.{insert_fault}
use Rattle.plain_model.specs.Statements.{shape_over}
use Rattle.stmt_eval.proofs.shape.shape_of.Goals as goal

pub returns-in_ok-fault_of_insert-in-Insert : goal.returns-in_ok-fault_of_insert-in-Insert
returns-in_ok-fault_of_insert-in-Insert c = λ t e.
    c.refusal.ensures
    ∙ ap (option_map plain) (c.in_ok-fault_of_insert-in-Insert.ensures ∙ ap (insert_fault c.in-Insert.insert) (sym e))
    ∙ ap (λ (stmt : Stmt). shape_over stmt (Some t)) (sym c.in-Insert.is)
