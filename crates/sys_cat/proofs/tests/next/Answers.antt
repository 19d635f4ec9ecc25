use Rattle.std.proofs.Common.{◌<◌, arith, subst, sym}
use Rattle.std.specs.Prelude.{All}
use Rattle.std.proofs.lemmas.List.Elements.{All-push}
use Rattle.sys_cat.specs.declared.desc.TableDesc.{TableDesc}
use Rattle.sys_cat.proofs.tests.next.Goals as goal

pub loop-number-preserved : goal.loop-number-preserved
loop-number-preserved c = subst (All (λ (d : TableDesc). d.number.0 < 4294967295)) (sym c.in_ok-push.ensures.ok) (All-push (λ (d : TableDesc). d.number.0 < 4294967295) c.loop-number.descs _ c.loop-number.invariant (omega (arith, c.from.ensures)))
