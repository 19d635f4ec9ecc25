use Rattle.std.proofs.Common.{◌+◌, arith}
use Rattle.std.proofs.lemmas.List.FromFn.{map-range_with_len_more}
use Rattle.plain_model.specs.Tables.{key_cell}
use Rattle.table_walk.proofs.key.key_of.Goals as goal

pub loop-i-preserved : goal.loop-i-preserved
loop-i-preserved c =
    let more = map-range_with_len_more (key_cell c.args.cols.now c.args.row.now) 1 c.loop-i.i (c.loop-i.i + 1) (omega arith) in
    grind (arith, more, c.loop-i.invariant, c.in_ok-push.ensures.ok, c.in_ok-key_cell.ensures)
