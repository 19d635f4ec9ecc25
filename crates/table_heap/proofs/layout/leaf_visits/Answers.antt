use Rattle.std.proofs.Common.{◌≡◌, ◌<◌, [], length, get_or, ap, sym, ◌∙◌, refl, arith, Some}
use Rattle.table_walk.specs.Addresses.{page_at}
use Rattle.table_heap.proofs.HeapLemmas.{leaves_more}
use Rattle.table_heap.proofs.layout.leaf_visits.Goals as goal

pub loop-j-preserved : goal.loop-j-preserved
loop-j-preserved c = λ d.
    let lt : c.loop-j.j < length (get_or c.args.seen.now c.args.i d).slots = omega (arith, c.slots-j-end.ensures.count d) in
    let named : page_at (get_or (get_or c.args.seen.now c.args.i d).slots c.loop-j.j []) ≡ Some c.in-Some.page = ap page_at (sym (c.slot.ensures d)) ∙ sym c.page_at.ensures ∙ c.in-Some.is in
    leaves_more c.args.from (get_or c.args.seen.now c.args.i d).slots c.loop-j.j c.loop-j.leaves.items c.push.new.self.items _ c.in-Some.page (c.loop-j.invariant d) lt named refl c.in_ok-push-in-Some.ensures.items
