use Rattle.std.proofs.Common.{◌≡◌, ◌≤◌, ◌<◌, ◌+◌, ◌∙◌, length, set, List, ℕ, ap, sym, subst, arith}
use Rattle.page_fmt.specs.Edits.{set_slot}
use Rattle.page_fmt.specs.Spelling.{used, FitsPage}
use Rattle.table_heap.proofs.SlotsLemmas.{slot_bound, used_within, used_behind, set_within, set_behind, fits_set}
use Rattle.table_heap.proofs.leaf.LeafSlots.set.Goals as goal

pub invariant_of-self-then-slot-len : goal.invariant_of-self-then-slot-len
invariant_of-self-then-slot-len c =
    let s = c.self.inside.slots.items in
    let at : c.args.slot ≡ length s = omega (arith, c.len.ensures, c.self.inside.slots.ok.0, c.if-slot-len.true) in
    let is : c.push.new.self.items ≡ set_slot s c.args.slot c.args.bytes = c.in_ok-push.ensures.items ∙ sym (set_behind s c.args.slot c.args.bytes at) in
    let room : used (set_slot s c.args.slot c.args.bytes) ≤ 8192 = subst (λ (t : List (List ℕ)). used (set_slot t c.args.slot c.args.bytes) ≤ 8192) (sym c.self.view_is) c.requires.room in
    let u = used_behind s c.args.slot c.args.bytes at in
    let taken = c.self.invariant.0 in
    let size : c.len-size.result ≡ length c.args.bytes = c.len-size.ensures in
    let sum : c.self.inside.taken + (c.len-size.result + 2) ≡ used (set_slot s c.args.slot c.args.bytes) = omega arith in
    (sum ∙ ap used (sym is), subst FitsPage (sym is) (fits_set s c.args.slot c.args.bytes c.requires.some room c.self.invariant.1))

pub returns-then-slot-len : goal.returns-then-slot-len
returns-then-slot-len c =
    let at : c.args.slot ≡ length c.self.inside.slots.items = omega (arith, c.len.ensures, c.self.inside.slots.ok.0, c.if-slot-len.true) in
    c.in_ok-push.ensures.items ∙ sym (set_behind c.self.inside.slots.items c.args.slot c.args.bytes at) ∙ ap (λ (t : List (List ℕ)). set_slot t c.args.slot c.args.bytes) c.self.view_is

pub overflow_sub-self : goal.overflow_sub-self
overflow_sub-self c =
    let s = c.self.inside.slots.items in
    let most : c.args.slot ≤ length c.self.inside.slots.items = subst (λ (t : List (List ℕ)). c.args.slot ≤ length t) (sym c.self.view_is) c.requires.there in
    let there : c.args.slot < length s = omega (arith, c.len.ensures, c.self.inside.slots.ok.0, c.if-slot-len.false) in
    let b = slot_bound s c.args.slot c.index.result.now there c.index.ensures in
    let taken = c.self.invariant.0 in
    omega arith

pub invariant_of-self-2 : goal.invariant_of-self-2
invariant_of-self-2 c =
    let s = c.self.inside.slots.items in
    let most : c.args.slot ≤ length c.self.inside.slots.items = subst (λ (t : List (List ℕ)). c.args.slot ≤ length t) (sym c.self.view_is) c.requires.there in
    let there : c.args.slot < length s = omega (arith, c.len.ensures, c.self.inside.slots.ok.0, c.if-slot-len.false) in
    let e : set_slot s c.args.slot c.args.bytes ≡ set s c.args.slot c.args.bytes = set_within s c.args.slot c.args.bytes there in
    let room : used (set_slot s c.args.slot c.args.bytes) ≤ 8192 = subst (λ (t : List (List ℕ)). used (set_slot t c.args.slot c.args.bytes) ≤ 8192) (sym c.self.view_is) c.requires.room in
    let u = used_within s c.args.slot c.args.bytes c.index.result.now there c.index.ensures in
    let b = slot_bound s c.args.slot c.index.result.now there c.index.ensures in
    let taken = c.self.invariant.0 in
    let f : FitsPage (set s c.args.slot c.args.bytes) = subst FitsPage e (fits_set s c.args.slot c.args.bytes c.requires.some room c.self.invariant.1) in
    let size : c.len-size.result ≡ length c.args.bytes = c.len-size.ensures in
    let old : c.len-2.result ≡ length c.index.result.now = c.len-2.ensures in
    let same : used (set_slot s c.args.slot c.args.bytes) ≡ used (set s c.args.slot c.args.bytes) = ap used e in
    (omega arith, f)

pub returns : goal.returns
returns c =
    let most : c.args.slot ≤ length c.self.inside.slots.items = subst (λ (t : List (List ℕ)). c.args.slot ≤ length t) (sym c.self.view_is) c.requires.there in
    let there : c.args.slot < length c.self.inside.slots.items = omega (arith, c.len.ensures, c.self.inside.slots.ok.0, c.if-slot-len.false) in
    sym (set_within c.self.inside.slots.items c.args.slot c.args.bytes there) ∙ ap (λ (t : List (List ℕ)). set_slot t c.args.slot c.args.bytes) c.self.view_is
