use Rattle.std.proofs.Common.{◌≡◌, ◌≤◌, ◌<◌, ◌∙◌, length, take, set, List, ℕ, ap, sym, subst, arith}
use Rattle.page_fmt.specs.Edits.{cleared, trimmed}
use Rattle.page_fmt.specs.Spelling.{used, FitsPage}
use Rattle.table_heap.proofs.SlotsLemmas.{fits_cleared}
use Rattle.table_heap.proofs.leaf.LeafSlots.clear.Goals as goal

pub used-self-inside-requires : goal.used-self-inside-requires
used-self-inside-requires c =
    let there : c.args.slot < length c.self.inside.slots.items = omega (arith, c.len.ensures, c.self.inside.slots.ok.0) in
    let is : c.as_slice-2.result.now ≡ cleared c.self.inside.slots.items c.args.slot =
    c.as_slice-2.ensures.value ∙ c.truncate.ensures.items ∙ ap (take c.filled-filled.result) (sym c.as_slice.ensures.value) ∙ c.filled-filled.ensures ∙ ap trimmed c.as_slice.ensures.value ∙ ap (λ (x : List ℕ). trimmed (set c.self.inside.slots.items c.args.slot x)) c.new.ensures in
    subst (λ (s : List (List ℕ)). used s ≤ 8192) (sym is) (fits_cleared c.self.inside.slots.items c.args.slot there c.self.invariant.1).small

pub invariant_of-self : goal.invariant_of-self
invariant_of-self c =
    let there : c.args.slot < length c.self.inside.slots.items = omega (arith, c.len.ensures, c.self.inside.slots.ok.0) in
    let is : c.truncate.new.self.items ≡ cleared c.self.inside.slots.items c.args.slot =
    c.truncate.ensures.items ∙ ap (take c.filled-filled.result) (sym c.as_slice.ensures.value) ∙ c.filled-filled.ensures ∙ ap trimmed c.as_slice.ensures.value ∙ ap (λ (x : List ℕ). trimmed (set c.self.inside.slots.items c.args.slot x)) c.new.ensures in
    (c.used-self-inside.ensures ∙ ap used c.as_slice-2.ensures.value, subst FitsPage (sym is) (fits_cleared c.self.inside.slots.items c.args.slot there c.self.invariant.1))
