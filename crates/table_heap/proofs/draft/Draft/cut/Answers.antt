use Rattle.std.proofs.Common.{◌≡◌, ◌<◌, ◌∙◌, List, ℕ, [], length, get_or, set, ap, sym, subst, arith}
use Rattle.std.proofs.lemmas.List.{get_or_read}
use Rattle.page_fmt.specs.Edits.{cleared}
use Rattle.table_heap.specs.Leaves.{cut}
use Rattle.table_heap.specs.Places.{Index, IsDraft}
use Rattle.table_heap.proofs.DraftLemmas.{cut_draft, cut_draft_none, place_within}
use Rattle.table_heap.proofs.draft.Draft.cut.Goals as goal

pub returns-in_default-clause-draft : goal.returns-in_default-clause-draft
returns-in_default-clause-draft c = λ cols leaves d.
    subst (λ (m : Index). IsDraft cols (cut cols c.args.key.now leaves) c.args.self.now.leaves.items m) (sym c.take.ensures.new)
    (cut_draft_none cols leaves c.args.self.now.leaves.items c.args.self.now.places c.args.key.now d (sym c.take.ensures.place ∙ c.in_default.is))

pub returns-then-len-place-clause-draft : goal.returns-then-len-place-clause-draft
returns-then-len-place-clause-draft c = λ cols leaves d.
    let h = place_within cols leaves c.args.self.now.leaves.items c.args.self.now.places c.args.key.now c.in-Some.place d (sym c.take.ensures.place ∙ c.in-Some.is) in
    absurd (omega (arith, h.0, c.len.ensures, c.args.self.now.leaves.ok.0, c.if-len-place.true))

pub returns-clause-draft : goal.returns-clause-draft
returns-clause-draft c = λ cols leaves d.
    let here = sym c.take.ensures.place ∙ c.in-Some.is in
    let h = place_within cols leaves c.args.self.now.leaves.items c.args.self.now.places c.args.key.now c.in-Some.place d here in
    let was : c.index_mut.result.now ≡ get_or c.args.self.now.leaves.items c.in-Some.place.leaf [] =
    get_or_read c.args.self.now.leaves.items c.in-Some.place.leaf c.index_mut.result.now h.0 c.index_mut.ensures.value [] in
    let there : c.in-Some.place.slot < length c.index_mut.result.now = subst (λ (s : List (List ℕ)). c.in-Some.place.slot < length s) (sym was) h.1 in
    subst (λ (m : Index). IsDraft cols (cut cols c.args.key.now leaves) (set c.args.self.now.leaves.items c.in-Some.place.leaf c.clear.new.self) m) (sym c.take.ensures.new)
    (cut_draft cols leaves c.args.self.now.leaves.items (set c.args.self.now.leaves.items c.in-Some.place.leaf c.clear.new.self) c.args.self.now.places c.args.key.now c.in-Some.place d here
    (ap (set c.args.self.now.leaves.items c.in-Some.place.leaf) (c.clear.ensures there ∙ ap (λ (s : List (List ℕ)). cleared s c.in-Some.place.slot) was)))
