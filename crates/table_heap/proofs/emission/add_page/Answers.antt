use Rattle.std.proofs.Common.{◌-◌, ◌<◌, ◌≤◌, [], length, get_or, subst, arith}
use Rattle.table_walk.specs.Differences.{AddsPage}
use Rattle.table_walk.proofs.Exits.{on_ok}
use Rattle.table_heap.specs.declared.growing.RootPage.{RootPage}
use Rattle.table_heap.specs.Emission.{read_pages, read_slots, leaf_spots}
use Rattle.table_heap.specs.Growth.{pages_in, slots_made}
use Rattle.table_heap.proofs.EmissionLemmas.{spots_length, adds_leaf}
use Rattle.table_heap.proofs.emission.add_page.Goals as goal

pub returns-then-page-len : goal.returns-then-page-len
returns-then-page-len c =
    let lt : c.args.page < length c.args.draft.now.leaves.items = omega (arith, c.if-page-len.true, c.len.ensures) in
    on_ok c.add_leaf.result
    (λ a d.
    adds_leaf (leaf_spots (read_pages c.args.seen.now d c.args.places.now) c.args.growth.now.leaves) (read_slots c.args.seen.now d c.args.places.now) c.args.draft.now.leaves.items (pages_in c.args.growth.now) c.args.page c.args.edits.now c.add_leaf.new.edits lt
    (omega (arith, lt, c.requires.leaves, spots_length c.args.seen.now d c.args.places.now c.args.growth.now.leaves))
    (λ s.
    subst (λ cs. AddsPage (get_or (leaf_spots (read_pages c.args.seen.now d c.args.places.now) cs) c.args.page s) (get_or (read_slots c.args.seen.now d c.args.places.now) c.args.page []) (get_or c.args.draft.now.leaves.items c.args.page []) c.args.edits.now c.add_leaf.new.edits) c.as_slice-claims.ensures
    (subst (λ x. AddsPage (get_or (leaf_spots (read_pages c.args.seen.now d c.args.places.now) c.as_slice-claims.result.now) c.args.page s) (get_or (read_slots c.args.seen.now d c.args.places.now) c.args.page []) x c.args.edits.now c.add_leaf.new.edits) c.leaf.ensures.value (a d s))))
    c.add_leaf.ensures

pub add_root-requires : goal.add_root-requires
add_root-requires c =
    let within : c.args.page - c.len-2.result < length (pages_in c.args.growth.now) = omega (arith, c.if-page-len.false, c.len.ensures, c.len-2.ensures, c.requires.page) in
    subst (λ (r : RootPage). slots_made r ≤ 1001) (c.root.ensures c.root.result.now) (c.requires.short (c.args.page - c.len-2.result) c.root.result.now within)
