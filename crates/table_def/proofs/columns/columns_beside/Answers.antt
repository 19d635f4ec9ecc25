use Rattle.std.proofs.Common.{◌∙◌, ◌++◌, ◌∷◌, [], List, map, take, ap, sym}
use Rattle.page_base.specs.declared.column.Column.{Column}
use Rattle.table_def.specs.Parts.{written}
use Rattle.table_def.specs.Defined.{column_of}
use Rattle.table_def.proofs.Written.{column_more, key_more, length_at}
use Rattle.table_def.proofs.columns.columns_beside.Goals as goal
use Rattle.table_def.proofs.columns.columns_beside.Goals.{in-Column+in_ok-push-in-Column, in-Key}

pub column_of-requires-clause-length : goal.column_of-requires-clause-length
column_of-requires-clause-length c =
    let within = rw c.as_slice-part-items.ensures at c.loop-part-test.true in
    let at = rw c.as_slice-part-items.ensures at c.part-item.is in
    length_at c.args.parts.now c.loop-part.part-index c.part-item.result c.in-Column.part c.requires.lengths within at c.in-Column.is

pub loop-part-preserved : goal.loop-part-preserved
loop-part-preserved c =
    let within = rw c.as_slice-part-items.ensures at c.loop-part-test.true in
    let at = rw c.as_slice-part-items.ensures at c.part-item.is in
    elim c.match-part.branch [
      | in-Column+in_ok-push-in-Column w ↦
          w.cols-is ∙ w.in_ok-push-in-Column.ensures.ok
          ∙ ap (λ (cols : List Column). cols ++ w.column_of.result ∷ []) c.loop-part.invariant
          ∙ ap (λ (col : Column). map (column_of c.args.key.now) (written (take c.loop-part.part-index c.args.parts.now)) ++ col ∷ []) w.column_of.ensures
          ∙ sym (column_more (column_of c.args.key.now) c.args.parts.now c.loop-part.part-index c.part-item.result w.in-Column.part within at w.in-Column.is)
      | in-Key w ↦
          w.cols-is ∙ c.loop-part.invariant
          ∙ sym (key_more (column_of c.args.key.now) c.args.parts.now c.loop-part.part-index c.part-item.result w.in-Key.field-0 within at w.in-Key.is)
    ]
