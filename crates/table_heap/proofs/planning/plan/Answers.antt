use Rattle.std.proofs.Common.{◌≡◌, ◌<◌, List, ℕ, length, map, sym, ◌∙◌, ap, subst}
use Rattle.std.specs.List.{All}
use Rattle.page_fmt.specs.Seen.{place_of}
use Rattle.table_walk.specs.Answers.{IsAt, IsMemory}
use Rattle.table_walk.specs.Tables.{IsBadRow}
use Rattle.table_walk.proofs.Exits.{handed_on}
use Rattle.table_walk.proofs.TableLemmas.{table_no_bad_row}
use Rattle.table_heap.specs.Emission.{read_slots, IsPlanned}
use Rattle.table_heap.specs.Heap.{heap_kids, heap_shape, first}
use Rattle.table_heap.specs.Shape.{leaves_in}
use Rattle.table_heap.proofs.PlanningLemmas.{places_within, bad_read}
use Rattle.table_heap.proofs.PromiseLemmas.{promised}
use Rattle.table_heap.proofs.planning.plan.Goals as goal

pub drafted-requires-clause-within : goal.drafted-requires-clause-within
drafted-requires-clause-within c =
    let is : c.as_slice-2.result.now ≡ map (place_of c.args.seen.now) (leaves_in c.in_ok-done.done.items) = c.as_slice-2.ensures.value ∙ c.in_ok-places.ensures ∙ ap (λ vs. map (place_of c.args.seen.now) (leaves_in vs)) c.as_slice.ensures.value in
    subst (λ (is : List ℕ). All (λ i. i < length c.args.seen.now) is) (sym is) (places_within c.args.seen.now c.in_ok-done.done.items c.in_ok-done.ensures.done.were)

pub returns-in_err-draft-clause-bad : goal.returns-in_err-draft-clause-bad
returns-in_err-draft-clause-bad c =
    let is : c.as_slice-2.result.now ≡ map (place_of c.args.seen.now) (leaves_in c.in_ok-done.done.items) = c.as_slice-2.ensures.value ∙ c.in_ok-places.ensures ∙ ap (λ vs. map (place_of c.args.seen.now) (leaves_in vs)) c.as_slice.ensures.value in
    handed_on (IsAt (IsBadRow heap_kids c.args.cols.now c.args.seen.now (first c.args.root))) c.from_residual-in_err-draft.result c.in_err-draft.field-0.0 c.from_residual-in_err-draft.ensures.1
    (bad_read c.args.seen.now c.args.cols.now c.args.root c.in_ok-done.done.items c.as_slice-2.result.now c.in_err-draft.field-0.0 c.in_ok-done.ensures.done is c.in_err-draft.ensures.bad)

pub returns-in_err-draft-clause-whole : goal.returns-in_err-draft-clause-whole
returns-in_err-draft-clause-whole c = λ at owns rows t shows.
    let is : c.as_slice-2.result.now ≡ map (place_of c.args.seen.now) (leaves_in c.in_ok-done.done.items) = c.as_slice-2.ensures.value ∙ c.in_ok-places.ensures ∙ ap (λ vs. map (place_of c.args.seen.now) (leaves_in vs)) c.as_slice.ensures.value in
    handed_on IsMemory c.from_residual-in_err-draft.result c.in_err-draft.field-0.0 c.from_residual-in_err-draft.ensures.1
    (table_no_bad_row heap_shape c.args.cols.now at owns (first c.args.root) rows c.args.seen.now t c.in_err-draft.field-0.0 shows
    (bad_read c.args.seen.now c.args.cols.now c.args.root c.in_ok-done.done.items c.as_slice-2.result.now c.in_err-draft.field-0.0 c.in_ok-done.ensures.done is c.in_err-draft.ensures.bad))

pub planned-requires-clause-within : goal.planned-requires-clause-within
planned-requires-clause-within c =
    let is : c.as_slice-3.result.now ≡ map (place_of c.args.seen.now) (leaves_in c.in_ok-done.done.items) = c.as_slice-3.ensures.value ∙ c.in_ok-places.ensures ∙ ap (λ vs. map (place_of c.args.seen.now) (leaves_in vs)) c.as_slice.ensures.value in
    subst (λ (is : List ℕ). All (λ i. i < length c.args.seen.now) is) (sym is) (places_within c.args.seen.now c.in_ok-done.done.items c.in_ok-done.ensures.done.were)

pub returns-clause-promises : goal.returns-clause-promises
returns-clause-promises c =
    let is : c.as_slice-3.result.now ≡ map (place_of c.args.seen.now) (leaves_in c.in_ok-done.done.items) = c.as_slice-3.ensures.value ∙ c.in_ok-places.ensures ∙ ap (λ vs. map (place_of c.args.seen.now) (leaves_in vs)) c.as_slice.ensures.value in
    let planned : IsPlanned c.args.seen.now c.args.root c.in_ok-done.done.items c.as_slice-3.result.now c.in_ok-draft.draft.leaves.items c.in_ok-planned.field-0.new_pages c.in_ok-planned.field-0.edits =
    subst (λ ws. IsPlanned c.args.seen.now c.args.root ws c.as_slice-3.result.now c.in_ok-draft.draft.leaves.items c.in_ok-planned.field-0.new_pages c.in_ok-planned.field-0.edits) c.as_slice-done.ensures.value c.in_ok-planned.ensures in
    promised c.args.cols.now c.args.seen.now c.args.root c.args.cut.now c.args.put.now c.in_ok-done.done.items c.as_slice-3.result.now c.in_ok-draft.draft.leaves.items c.in_ok-draft.draft.places c.in_ok-planned.field-0.new_pages c.in_ok-planned.field-0.edits
    c.in_ok-done.ensures.done is
    (λ d leaves read. c.in_ok-draft.ensures.draft d leaves (ap (read_slots c.args.seen.now d) (c.as_slice-2.ensures.value ∙ sym c.as_slice-3.ensures.value) ∙ read)) c.requires.put planned
