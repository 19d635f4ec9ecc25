-- The names so far are those of the columns so far.
use Rattle.std.proofs.Common.{◌≡◌, map, take}
use Rattle.page_base.specs.declared.column.Column.{Column}
use Rattle.stmt_eval.proofs.shapes.all_names.Given as goal

abbrev pub invariant-loop-column : goal.invariant-loop-column
invariant-loop-column l = l.names ≡ map (λ (c : Column). c.name) (take l.column-index l.column-items)
