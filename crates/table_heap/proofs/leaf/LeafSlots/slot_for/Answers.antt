use Rattle.std.proofs.Common.{◌≡◌, ◌≢◌, ◌≤◌, ◌<◌, ◌+◌, ◌-◌, ◌⊎◌, inl, inr, length, List, ℕ, sym, subst, arith}
use Rattle.page_fmt.specs.Edits.{set_slot}
use Rattle.page_fmt.specs.Spelling.{used}
use Rattle.table_heap.specs.Places.{IsFirstEmpty}
use Rattle.table_heap.proofs.SlotsLemmas.{room_left, no_room, no_room_behind}
use Rattle.table_heap.proofs.leaf.LeafSlots.slot_for.Goals as goal
use Rattle.table_heap.proofs.leaf.LeafSlots.slot_for.Goals.{else-slot-len-via-then-slot-len+else-self-saturating_add, else-slot-len-via-else-slot-len}

pub returns-then-self-size-clause-none : goal.returns-then-self-size-clause-none
returns-then-self-size-clause-none c =
    subst (λ (s : List (List ℕ)). (x : List ℕ) (j : ℕ) → length x ≡ c.args.size → IsFirstEmpty s j → 8192 < used (set_slot s j x)) c.self.view_is
    (no_room c.self.inside.slots.items c.self.inside.taken c.args.size c.self.invariant.0 c.self.invariant.1.small c.if-self-size.true)

pub returns-then-self-saturating_add-clause-none : goal.returns-then-self-saturating_add-clause-none
returns-then-self-saturating_add-clause-none c =
    let small = c.self.invariant.1.small in
    let f : IsFirstEmpty c.self.inside.slots.items c.first_empty-slot.result = subst (λ (s : List (List ℕ)). IsFirstEmpty s c.first_empty-slot.result) (sym c.self.view_is) c.first_empty-slot.ensures in
    let at : c.first_empty-slot.result ≡ length c.self.inside.slots.items = omega (arith, c.len.ensures, c.self.inside.slots.ok.0, c.if-slot-len.true) in
    let lacks : 8192 - c.self.inside.taken < c.args.size + 2 = let s = c.saturating_add.ensures in omega arith in
    subst (λ (s : List (List ℕ)). (x : List ℕ) (j : ℕ) → length x ≡ c.args.size → IsFirstEmpty s j → 8192 < used (set_slot s j x)) c.self.view_is
    (no_room_behind c.self.inside.slots.items c.self.inside.taken c.args.size c.first_empty-slot.result c.self.invariant.0 c.self.invariant.1.small f at lacks)

pub returns-clause-room : goal.returns-clause-room
returns-clause-room c =
    let small = c.self.invariant.1.small in
    let f : IsFirstEmpty c.self.inside.slots.items c.first_empty-slot.result = subst (λ (s : List (List ℕ)). IsFirstEmpty s c.first_empty-slot.result) (sym c.self.view_is) c.first_empty-slot.ensures in
    let more : (c.first_empty-slot.result ≢ length c.self.inside.slots.items) ⊎ (c.args.size + 2 ≤ 8192 - c.self.inside.taken) =
    elim c.else-slot-len.branch [
      | else-slot-len-via-then-slot-len+else-self-saturating_add w ↦ inr (let s = w.saturating_add.ensures in let t = w.if-self-saturating_add.false in omega arith)
      | else-slot-len-via-else-slot-len w ↦ inl (λ e. w.if-slot-len.false (omega (arith, c.len.ensures, c.self.inside.slots.ok.0, e)))
    ] in
    subst (λ (s : List (List ℕ)). (x : List ℕ) → length x ≡ c.args.size → used (set_slot s c.first_empty-slot.result x) ≤ 8192) c.self.view_is
    (room_left c.self.inside.slots.items c.self.inside.taken c.args.size c.first_empty-slot.result c.self.invariant.0 c.self.invariant.1.small f (omega (arith, c.if-self-size.false)) more)
