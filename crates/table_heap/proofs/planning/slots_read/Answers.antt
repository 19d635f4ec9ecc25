use Rattle.std.proofs.Common.{[], length, get_or, ap, sym, ◌∙◌, arith}
use Rattle.page_fmt.specs.Seen.{Looked, Saw}
use Rattle.page_fmt.proofs.SeenLemmas.{look-place}
use Rattle.table_heap.proofs.PlanningLemmas.{look_none}
use Rattle.table_heap.proofs.planning.slots_read.Goals as goal

pub returns-in-Some : goal.returns-in-Some
returns-in-Some c =
    let d : Looked = record { page = c.args.page; slots = [] } in
    let saw : Saw c.args.seen.now c.args.page = omega (arith, c.in-Some.ensures.some, c.in-Some.ensures.there) in
    c.from.ensures ∙ c.slots.ensures.count d ∙ ap (λ i. length (get_or c.args.seen.now i d).slots) c.in-Some.ensures.some ∙ ap length (sym (look-place c.args.seen.now c.args.page d saw))

pub returns-in-None : goal.returns-in-None
returns-in-None c = sym (ap length (look_none c.args.seen.now c.args.page (omega (arith, c.in-None.ensures.none))))
