use Rattle.std.proofs.Common.{List, ℕ, ◌∙◌, ◌+◌, ◌≢◌, [], ◌<◌, length, ap, subst, sym, arith}
use Rattle.page_fmt.specs.Content.{content}
use Rattle.page_fmt.specs.Edits.{slot_at}
use Rattle.table_pages.specs.Rows.{row_of}
use Rattle.table_pages.specs.Drafting.{Index}
use Rattle.table_pages.proofs.PageLemmas.{few_slots, slot_past, page_slot, Empty, Row}
use Rattle.table_pages.proofs.IndexLemmas.{Indexed, indexed_none, indexed_empty, indexed_row, indexed_all}
use Rattle.table_pages.proofs.RowLemmas.{slot_short}
use Rattle.table_pages.proofs.draft.index_of.Goals as goal

pub loop-i-init : goal.loop-i-init
loop-i-init c = λ rows whole. subst (λ (m : Index). Indexed c.args.cols.now (content c.args.image.now) m 1) (sym c.new-index.ensures) (indexed_none c.args.cols.now (content c.args.image.now))

pub index_slot-requires : goal.index_slot-requires
index_slot-requires c = subst (λ (bs : List ℕ). length bs < 4294967295) (sym c.slot.ensures) (slot_short c.args.image.now c.loop-i.i c.requires)

pub loop-i-preserved : goal.loop-i-preserved
loop-i-preserved c = λ rows whole.
    let few = few_slots c.args.image.now c.requires in
    let cols = c.args.cols.now in
    let slots = content c.args.image.now in
    let at = c.slot.ensures in
    let so_far = c.loop-i.invariant rows whole in
    elim (page_slot cols (slot_at slots) rows whole c.loop-i.i (let low = c.loop-i.auto.i in omega arith) (let high = c.loop-i-test.true in omega (arith, c.slots-i-end.ensures))) [
      | Empty none ↦ subst (λ (m : Index). Indexed cols slots m (c.loop-i.i + 1)) (sym (c.in_ok-index_slot.ensures.empty (at ∙ none))) (indexed_empty cols slots c.loop-i.index c.loop-i.i none so_far)
      | Row row full is ↦
          subst (λ (m : Index). Indexed cols slots m (c.loop-i.i + 1)) (sym (c.in_ok-index_slot.ensures.row row (λ f. full (sym at ∙ f)) (ap (row_of cols) at ∙ is)))
          (indexed_row cols slots c.loop-i.index c.loop-i.i row (let low = c.loop-i.auto.i in omega arith) full is so_far)
    ]

pub returns : goal.returns
returns c = λ rows whole.
    indexed_all c.args.cols.now (content c.args.image.now) c.loop-i.index c.loop-i.i (λ j le. slot_past c.args.image.now j (let past = c.loop-i-test.false in omega (arith, c.slots-i-end.ensures))) (c.loop-i.invariant rows whole)
