-- The bits of fewer than eight values are a number below 128.
use Rattle.std.proofs.Common.{◌≤◌, ◌-◌, length, map, take, drop, arith}
use Rattle.std.proofs.lemmas.List.{length-map, length-take, length-drop}
use Rattle.row_fmt.specs.Rows.{is_null}
use Rattle.row_fmt.proofs.BitLemmas.{null_byte_small}
use Rattle.row_fmt.proofs.encoding.+null_byte.Goals as goal
use Rattle.row_fmt.proofs.encoding.+null_byte.Goals.{then-is_null, else-is_null}

pub overflow_mul-result : goal.overflow_mul-result
overflow_mul-result t c =
    let rest = take (length c.args.values.now - 1) (drop 1 c.args.values.now) in
    let few : length (map is_null rest) ≤ 7 = omega (arith, length-map rest is_null, length-take (length c.args.values.now - 1) (drop 1 c.args.values.now), length-drop 1 c.args.values.now, c.requires) in
    omega (arith, null_byte_small (map is_null rest) few, c.null_byte.ensures)

pub overflow_add-result : goal.overflow_add-result
overflow_add-result t c =
    let rest = take (length c.args.values.now - 1) (drop 1 c.args.values.now) in
    let few : length (map is_null rest) ≤ 7 = omega (arith, length-map rest is_null, length-take (length c.args.values.now - 1) (drop 1 c.args.values.now), length-drop 1 c.args.values.now, c.requires) in
    elim c.if-is_null.branch [
      | then-is_null w ↦ omega (arith, null_byte_small (map is_null rest) few, c.null_byte.ensures)
      | else-is_null w ↦ omega (arith, null_byte_small (map is_null rest) few, c.null_byte.ensures)
    ]
