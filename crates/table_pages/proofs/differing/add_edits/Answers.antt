use Rattle.std.proofs.Common.{List, ℕ, ◌≡◌, ◌≤◌, length, sym, subst, arith}
use Rattle.page_fmt.specs.Content.{content}
use Rattle.page_fmt.specs.Edits.{slot_at}
use Rattle.table_pages.specs.Drafting.{Adds}
use Rattle.table_pages.proofs.PageLemmas.{few_slots}
use Rattle.table_pages.proofs.PassLemmas.{pass_more, pass_past, both_past, page_short}
use Rattle.table_pages.proofs.differing.add_edits.Goals as goal

pub loop-s-preserved : goal.loop-s-preserved
loop-s-preserved c = λ h.
    let p = c.args.page in
    let slots = content c.args.before.now in
    let left = content c.args.after.now in
    let k = c.loop-s.s in
    let few_before = few_slots c.args.before.now c.requires.before in
    let few_after = few_slots c.args.after.now c.requires.after in
    let lt = c.loop-s-test.true in
    let n = c.max-count.ensures in
    let m = c.max.ensures in
    let a = c.slots.ensures in
    let b = c.slots-2.ensures in
    let adds =
    subst (λ (bs : List ℕ). Adds c.loop-s.edits c.add_edit.new.edits (record { page = p; slot = k; bytes = bs }) (slot_at slots k) c.args.growing) c.slot-in-loop-s.ensures
    (subst (λ (bs : List ℕ). Adds c.loop-s.edits c.add_edit.new.edits (record { page = p; slot = k; bytes = c.slot-in-loop-s.result.now }) bs c.args.growing) c.slot.ensures c.in_ok-add_edit.ensures) in
    pass_more p slots left c.requires.before.fits.small c.requires.before.fits.last c.requires.after.fits.small (page_short c.args.after.now c.requires.after) c.args.growing k (let low = c.loop-s.auto.s in omega arith) (omega arith) c.loop-s.edits c.add_edit.new.edits adds (c.loop-s.invariant h)

pub returns : goal.returns
returns c = λ h.
    let n = c.max-count.ensures in
    let m = c.max.ensures in
    let a = c.slots.ensures in
    let b = c.slots-2.ensures in
    let few_before = few_slots c.args.before.now c.requires.before in
    let few_after = few_slots c.args.after.now c.requires.after in
    let past = c.loop-s-test.false in
    let s = c.loop-s.auto.s in
    pass_past c.args.page (content c.args.before.now) (content c.args.after.now) c.args.growing c.max-count.result c.loop-s.s c.loop-s.edits (λ j le. both_past c.args.before.now c.args.after.now c.max-count.result j (omega arith) (omega arith) le) (omega arith) (omega arith) (c.loop-s.invariant h)
