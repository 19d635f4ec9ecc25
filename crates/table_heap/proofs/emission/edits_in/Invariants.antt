use Rattle.std.proofs.Common.{take}
use Rattle.page_fmt.specs.Seen.{Looked}
use Rattle.table_heap.specs.Emission.{read_pages, read_slots, leaf_spots, MakesAll}
use Rattle.table_heap.specs.Growth.{pages_in}
use Rattle.table_heap.proofs.emission.edits_in.Given as goal

abbrev pub invariant-loop-page : goal.invariant-loop-page
invariant-loop-page l = (d : Looked) → MakesAll (leaf_spots (read_pages l.seen d l.places) l.growth.leaves) (read_slots l.seen d l.places) l.draft.leaves.items (pages_in l.growth) (take l.page-index l.order) l.edits
