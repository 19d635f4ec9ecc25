use Rattle.std.proofs.Common.{◌∙◌, sym, arith}
use Rattle.std.specs.Prelude.{filter, length, ◌<◌}
use Rattle.table_def.specs.Options.{is_primary_key}
use Rattle.table_def.proofs.FirstKey.{own_key}
use Rattle.table_def.proofs.keys.key_of.Goals as goal

pub returns-in-Column : goal.returns-in-Column
returns-in-Column c =
    let within = rw c.as_slice-part-items.ensures at c.loop-part-test.true in
    let at = rw c.as_slice-part-items.ensures at c.part-item.is in
    let some : 0 < length (filter is_primary_key c.in-Column.column.options) = omega (arith, c.own_keys.ensures) in
    c.from_ref.ensures.value ∙ sym (own_key c.args.parts.now c.loop-part.part-index c.part-item.result c.in-Column.column within at c.in-Column.is some) ∙ c.loop-part.invariant
