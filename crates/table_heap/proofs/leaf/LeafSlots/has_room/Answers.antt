use Rattle.std.proofs.Common.{◌≤◌, ◌<◌, length, List, ℕ, subst, arith}
use Rattle.std.proofs.lemmas.Bool.{leb-true, leb-false}
use Rattle.page_fmt.specs.Edits.{set_slot}
use Rattle.page_fmt.specs.Spelling.{used}
use Rattle.table_heap.proofs.SlotsLemmas.{slot_bound, room_within, lacks_within}
use Rattle.table_heap.proofs.leaf.LeafSlots.has_room.Goals as goal

pub overflow_add-result : goal.overflow_add-result
overflow_add-result c =
    let there : c.args.slot < length c.self.inside.slots.items = omega (arith, c.len.ensures, c.self.inside.slots.ok.0) in
    let b = slot_bound c.self.inside.slots.items c.args.slot c.index.result.now there c.index.ensures in
    let small = c.self.invariant.1.small in
    omega arith

pub returns-clause-yes : goal.returns-clause-yes
returns-clause-yes c = λ yes x e.
    let there : c.args.slot < length c.self.inside.slots.items = omega (arith, c.len.ensures, c.self.inside.slots.ok.0) in
    let room = leb-true _ _ yes in
    subst (λ (s : List (List ℕ)). used (set_slot s c.args.slot x) ≤ 8192) c.self.view_is
    (room_within c.self.inside.slots.items c.self.inside.taken c.args.size c.args.slot c.index.result.now c.self.invariant.0 c.self.invariant.1.small there c.index.ensures x e (omega (arith, room)))

pub returns-clause-no : goal.returns-clause-no
returns-clause-no c = λ no known x e.
    let there : c.args.slot < length c.self.inside.slots.items = omega (arith, c.len.ensures, c.self.inside.slots.ok.0) in
    let room = leb-false _ _ no in
    subst (λ (s : List (List ℕ)). 8192 < used (set_slot s c.args.slot x)) c.self.view_is
    (lacks_within c.self.inside.slots.items c.self.inside.taken c.args.size c.args.slot c.index.result.now c.self.invariant.0 c.self.invariant.1.small there c.index.ensures x e (omega (arith, room)))
