-- The bytes for NULLs and the fields of the values are the row.
use Rattle.std.proofs.Common.{◌++◌, List, ℕ, length, map, ap, subst, ◌∙◌}
use Rattle.std.specs.List.{concat, flat_map, AllByRecursion}
use Rattle.row_fmt.specs.Rows.{InRange, is_null, bit_fields, null_bytes, value_field}
use Rattle.row_fmt.proofs.RowLemmas.{row_was_spelled, length-fits}
use Rattle.row_fmt.proofs.encoding.encode.Goals as goal

pub size-requires : goal.size-requires
size-requires c = length-fits c.args.cols.now c.args.row.now c.requires

pub returns : goal.returns
returns c =
    row_was_spelled c.args.cols.now c.from.result c.args.row.now c.requires (subst (AllByRecursion InRange) c.as_slice-2.ensures c.in_ok-put_values.ensures.range)
    (c.from.ensures ∙ c.in_ok-put_values.ensures.bytes
    ∙ (λ i. (c.in_ok-put_nulls.ensures ∙ ap (λ (bs : List ℕ). bs ++ concat (bit_fields (null_bytes (length c.as_slice.result.now)) (map is_null c.as_slice.result.now))) c.in_ok-out.ensures.items) i ++ concat (flat_map value_field c.as_slice-2.result.now))
    ∙ (λ i. concat (bit_fields (null_bytes (length (c.as_slice.ensures i))) (map is_null (c.as_slice.ensures i))) ++ concat (flat_map value_field (c.as_slice-2.ensures i))))
