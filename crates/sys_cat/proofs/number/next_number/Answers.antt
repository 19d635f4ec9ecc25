use Rattle.std.proofs.Common.{◌≡◌, ◌∙◌, List, true, sym, ap, arith}
use Rattle.sys_cat.specs.declared.desc.TableDesc.{TableDesc}
use Rattle.sys_cat.specs.Lists.{has_number}
use Rattle.sys_cat.proofs.NumberLemmas.{from_less, small_number}
use Rattle.sys_cat.proofs.number.next_number.Goals as goal

pub overflow_add-number : goal.overflow_add-number
overflow_add-number c =
    let has : has_number c.args.descs.now c.loop-number.number ≡ true = ap (λ (ds : List TableDesc). has_number ds c.loop-number.number) (sym c.as_slice.ensures) ∙ sym c.has_number.ensures ∙ c.loop-number-test.true in
    omega (arith, small_number c.args.descs.now c.loop-number.number 4294967295 has c.requires)

pub loop-number-smaller : goal.loop-number-smaller
loop-number-smaller c =
    let has : has_number c.args.descs.now c.loop-number.number ≡ true = ap (λ (ds : List TableDesc). has_number ds c.loop-number.number) (sym c.as_slice.ensures) ∙ sym c.has_number.ensures ∙ c.loop-number-test.true in
    from_less c.args.descs.now c.loop-number.number has
