use Rattle.std.proofs.Common.{◌≡◌, ◌∙◌, ℕ, [], length, get_or, ap}
use Rattle.std.proofs.lemmas.List.{length-map}
use Rattle.std.specs.List.{Any}
use Rattle.page_fmt.specs.Seen.{Looked}
use Rattle.table_walk.specs.declared.refusal.SeenRefusal.{SeenRefusal}
use Rattle.table_walk.specs.Answers.{IsAt}
use Rattle.table_walk.specs.Tables.{IsNoRow}
use Rattle.table_walk.proofs.Exits.{handed_on}
use Rattle.table_heap.proofs.DraftLemmas.{so_far_none}
use Rattle.table_heap.proofs.ReadLemmas.{slots_read, read_more, read_one, read_many, read_draft, bad_at}
use Rattle.table_heap.proofs.draft.Draft.read.Goals as goal

pub loop-leaf-init : goal.loop-leaf-init
loop-leaf-init c = record { slots = λ d. c.new-leaves.ensures.items; places = λ d leaves are rows apart. so_far_none c.args.cols.now leaves c.new-places.result c.new-places.ensures }

pub returns-in_err-add_places-clause-bad : goal.returns-in_err-add_places-clause-bad
returns-in_err-add_places-clause-bad c =
    let Bad : SeenRefusal → Type 0 = λ e. (d : Looked) → IsAt (λ page slot. Any {X = ℕ} (λ i. ((get_or c.args.seen.now i d).page ≡ page) × IsNoRow c.args.cols.now (get_or c.args.seen.now i d).slots slot) c.args.pages.now) e in
    handed_on Bad c.from_residual-in_err-add_places.result c.in_err-add_places.field-0.0 c.from_residual-in_err-add_places.ensures.1
    (λ d. bad_at c.args.cols.now c.args.seen.now d c.args.pages.now c.loop-leaf.leaf c.in_err-add_places.field-0.0 c.loop-leaf-test.true (c.in_err-add_places.ensures.bad d))

pub loop-leaf-preserved : goal.loop-leaf-preserved
loop-leaf-preserved c = record {
  slots = λ d. read_more (slots_read c.args.seen.now d) c.args.pages.now c.loop-leaf.leaf c.loop-leaf.leaves.items c.push.new.self.items c.in_ok-read.field-0 c.loop-leaf-test.true (c.loop-leaf.invariant.slots d) (c.in_ok-read.ensures d) c.in_ok-push.ensures.items;
  places = λ d leaves are rows apart.
      c.in_ok-add_places.ensures.places d leaves (read_one (slots_read c.args.seen.now d) c.args.pages.now leaves c.loop-leaf.leaf c.loop-leaf-test.true are) rows apart (c.loop-leaf.invariant.places d leaves are rows apart);
}

pub returns-clause-draft : goal.returns-clause-draft
returns-clause-draft c = λ d leaves are rows apart.
    read_draft c.args.cols.now (slots_read c.args.seen.now d) c.args.pages.now leaves c.loop-leaf.leaf c.loop-leaf.leaves.items c.loop-leaf.places c.loop-leaf-test.false (c.loop-leaf.invariant.slots d) are rows (c.loop-leaf.invariant.places d leaves are rows apart)

pub returns-clause-many : goal.returns-clause-many
returns-clause-many c =
    let d : Looked = record { page = record { file = 0; page = 0 }; slots = [] } in
    ap length (read_many (slots_read c.args.seen.now d) c.args.pages.now c.loop-leaf.leaf c.loop-leaf.leaves.items c.loop-leaf-test.false (c.loop-leaf.invariant.slots d)) ∙ length-map c.args.pages.now (slots_read c.args.seen.now d)
