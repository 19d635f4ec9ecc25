use Rattle.std.proofs.Common.{slice_index_or}
use Rattle.page_fmt.specs.Seen.{Looked}
use Rattle.table_walk.proofs.GatherLemmas.{SoFar}
use Rattle.table_walk.proofs.rows.add_page.Given as goal

abbrev pub invariant-loop-j : goal.invariant-loop-j
invariant-loop-j l = (d : Looked) → SoFar l.cols l.keys (slice_index_or l.seen l.i d).slots l.j l.fn.rows l.rows
