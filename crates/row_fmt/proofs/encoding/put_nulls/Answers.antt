-- One more byte is written, and the last one.
use Rattle.std.proofs.Common.{◌≡◌, ◌++◌, ◌*◌, List, ℕ, length, map, take, ap, ◌∙◌, arith}
use Rattle.std.specs.List.{concat}
use Rattle.page_base.specs.declared.value.Value.{Value}
use Rattle.row_fmt.specs.Rows.{is_null, bits_number, bit_fields, null_bytes}
use Rattle.row_fmt.proofs.NullLemmas.{tail_slice}
use Rattle.row_fmt.proofs.WritingLemmas.{nulls_written, no_nulls_written}
use Rattle.row_fmt.proofs.encoding.put_nulls.Goals as goal

pub loop-i-init : goal.loop-i-init
loop-i-init c = no_nulls_written (map is_null c.args.row.now) c.args.out.now.items

pub loop-i-preserved : goal.loop-i-preserved
loop-i-preserved c =
    nulls_written c.args.row.now c.loop-i.i c.null_byte.result c.args.out.now.items c.loop-i.out.items c.push.new.self.items
    (c.null_byte.ensures ∙ ap (λ (vs : List Value). bits_number (map is_null vs)) (c.first_eight.ensures ∙ ap (take 8) (tail_slice (8 * c.loop-i.i) c.args.row.now)))
    c.loop-i.invariant c.in_ok-push.ensures.items

pub returns : goal.returns
returns c =
    let all : c.loop-i.i ≡ null_bytes (length c.args.row.now) = omega (arith, c.null_bytes-i-end.ensures) in
    c.loop-i.invariant ∙ ap (λ (m : ℕ). c.args.out.now.items ++ concat (bit_fields m (map is_null c.args.row.now))) all
