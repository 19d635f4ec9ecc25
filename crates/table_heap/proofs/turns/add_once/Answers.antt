use Rattle.std.proofs.Common.{◌<◌, ◌∙◌, false, true, length, set, sym, subst, arith}
use Rattle.std.proofs.lemmas.List.{get_or_default}
use Rattle.table_heap.specs.Turns.{Marks}
use Rattle.table_heap.proofs.TurnLemmas.{marks_more}
use Rattle.table_heap.proofs.turns.add_once.Goals as goal

pub returns-clause-marks : goal.returns-clause-marks
returns-clause-marks c =
    let there : c.args.i < length c.args.marked.now = omega (arith, c.if-i-marked.false) in
    subst (Marks (set c.args.marked.now c.args.i true)) (sym c.in_ok-push.ensures.items)
    (marks_more c.args.marked.now c.args.order.now.items c.args.i c.requires there (get_or_default c.args.marked.now c.args.i false _ there ∙ c.if-marked-i.false))
