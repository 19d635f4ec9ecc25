use Rattle.std.proofs.Common.{◌≡◌, ◌+◌, ◌<◌, List, length, ap, sym, ◌∙◌, subst, arith, ℕ}
use Rattle.std.specs.List.{All}
use Rattle.table_heap.specs.Growth.{pages_in}
use Rattle.table_heap.proofs.GrowingLemmas.{chain_short}
use Rattle.table_heap.proofs.PlanningLemmas.{Counted, last_counted}
use Rattle.table_heap.proofs.GrowLemmas.{numbered_all}
use Rattle.table_heap.proofs.planning.planned.Goals as goal

pub grown-requires-clause-some : goal.grown-requires-clause-some
grown-requires-clause-some c =
    let l : Counted c.args.seen.now c.last_root-last.result = subst (Counted c.args.seen.now) (sym c.last_root-last.ensures) (last_counted c.args.seen.now c.args.root c.args.done.now c.requires.done) in
    omega (arith, c.slots_read-slots.ensures, l.some)

pub grown-requires-clause-short : goal.grown-requires-clause-short
grown-requires-clause-short c =
    let l : Counted c.args.seen.now c.last_root-last.result = subst (Counted c.args.seen.now) (sym c.last_root-last.ensures) (last_counted c.args.seen.now c.args.root c.args.done.now c.requires.done) in
    omega (arith, c.slots_read-slots.ensures, l.short)

pub edits_in-requires-clause-short : goal.edits_in-requires-clause-short
edits_in-requires-clause-short c = chain_short (pages_in c.in_ok-growth.growth) c.in_ok-growth.ensures.chain

pub edits_in-requires-clause-order : goal.edits_in-requires-clause-order
edits_in-requires-clause-order c =
    let many : c.in-Some.count ≡ length c.args.draft.now.leaves.items + length (pages_in c.in_ok-growth.growth) = c.in-Some.ensures ∙ ap (λ k. k + length (pages_in c.in_ok-growth.growth)) c.len-3.ensures in
    subst (λ (n : ℕ). All (λ i. i < n) c.as_slice-2.result.now) many (subst (λ (is : List ℕ). All (λ i. i < c.in-Some.count) is) (sym c.as_slice-2.ensures.value) (numbered_all c.in-Some.count c.in_ok-order.order.items c.in_ok-order.ensures))
