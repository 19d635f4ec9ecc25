-- One more value is written, and the last one.
use Rattle.std.proofs.Common.{◌≡◌, ◌++◌, List, take, sym, subst, ap, ◌∙◌, arith}
use Rattle.std.specs.List.{concat, flat_map, AllByRecursion}
use Rattle.std.proofs.lemmas.List.{append-nil, take_all}
use Rattle.page_base.specs.declared.value.Value.{Value}
use Rattle.row_fmt.specs.Rows.{InRange, value_field}
use Rattle.row_fmt.proofs.RowLemmas.{length-fits}
use Rattle.row_fmt.proofs.WritingLemmas.{fits_at, value_written}
use Rattle.row_fmt.proofs.encoding.put_values.Goals as goal

pub loop-i-init : goal.loop-i-init
loop-i-init c = (sym (append-nil c.args.out.now.items), tt)

pub bounds-row-i : goal.bounds-row-i
bounds-row-i c = omega (arith, length-fits c.args.columns.now c.args.row.now c.requires)

pub put_value-requires : goal.put_value-requires
put_value-requires c = fits_at c.args.columns.now c.args.row.now c.loop-i.i c.index-columns-i.result c.index-row-i.result c.requires c.loop-i-test.true c.index-columns-i.is c.index-row-i.is

pub loop-i-preserved : goal.loop-i-preserved
loop-i-preserved c =
    value_written c.args.row.now c.loop-i.i c.index-row-i.result c.args.out.now.items c.loop-i.out.items c.put_value.new.out.items (omega (arith, length-fits c.args.columns.now c.args.row.now c.requires)) c.index-row-i.is
    c.loop-i.invariant.0 c.loop-i.invariant.1 c.in_ok-put_value.ensures.bytes c.in_ok-put_value.ensures.range

pub returns-clause-bytes : goal.returns-clause-bytes
returns-clause-bytes c =
    let all : take c.loop-i.i c.args.row.now ≡ c.args.row.now = take_all c.loop-i.i c.args.row.now (omega (arith, length-fits c.args.columns.now c.args.row.now c.requires)) in
    c.loop-i.invariant.0 ∙ ap (λ (vs : List Value). c.args.out.now.items ++ concat (flat_map value_field vs)) all

pub returns-clause-range : goal.returns-clause-range
returns-clause-range c =
    let all : take c.loop-i.i c.args.row.now ≡ c.args.row.now = take_all c.loop-i.i c.args.row.now (omega (arith, length-fits c.args.columns.now c.args.row.now c.requires)) in
    subst (AllByRecursion InRange) all c.loop-i.invariant.1
