use Rattle.std.proofs.Common.{◌∙◌, ◌++◌, ◌∷◌, [], ℕ, List, ap, sym}
use Rattle.table_def.specs.declared.parts.ColumnPart.{ColumnPart}
use Rattle.table_def.proofs.Written.{column_more, key_more}
use Rattle.table_def.proofs.names.names_of.Goals as goal
use Rattle.table_def.proofs.names.names_of.Goals.{in-Column+in_ok-push-in-Column, in-Key}

pub loop-part-preserved : goal.loop-part-preserved
loop-part-preserved c =
    let name : ColumnPart → List ℕ = λ part. part.name in
    let within = rw c.as_slice-part-items.ensures at c.loop-part-test.true in
    let at = rw c.as_slice-part-items.ensures at c.part-item.is in
    elim c.match-part.branch [
      | in-Column+in_ok-push-in-Column w ↦
          w.names-is ∙ w.in_ok-push-in-Column.ensures.ok
          ∙ ap (λ (names : List (List ℕ)). names ++ w.in-Column.column.name ∷ []) c.loop-part.invariant
          ∙ sym (column_more name c.args.parts.now c.loop-part.part-index c.part-item.result w.in-Column.column within at w.in-Column.is)
      | in-Key w ↦
          w.names-is ∙ c.loop-part.invariant
          ∙ sym (key_more name c.args.parts.now c.loop-part.part-index c.part-item.result w.in-Key.field-0 within at w.in-Key.is)
    ]
