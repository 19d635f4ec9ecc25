use Rattle.table_heap.specs.Emission.{read_pages, read_slots, leaf_spots}
use Rattle.table_heap.specs.Growth.{pages_in}
use Rattle.table_heap.proofs.EmissionLemmas.{makes_more}
use Rattle.table_heap.proofs.emission.edits_in.Goals as goal

pub loop-page-preserved : goal.loop-page-preserved
loop-page-preserved c = λ d.
    makes_more (leaf_spots (read_pages c.args.seen.now d c.args.places.now) c.args.growth.now.leaves) (read_slots c.args.seen.now d c.args.places.now) c.args.draft.now.leaves.items (pages_in c.args.growth.now) c.args.order.now c.loop-page.page-index
    c.loop-page.edits c.add_page.new.edits (c.loop-page.invariant d) c.loop-page-test.true (c.in_ok-add_page.ensures d)
