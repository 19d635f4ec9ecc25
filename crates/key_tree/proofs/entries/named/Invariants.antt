use Rattle.std.proofs.Common.{slice_index_or}
use Rattle.page_fmt.specs.Seen.{Looked}
use Rattle.key_tree.proofs.EntryLemmas.{NamedSoFar}
use Rattle.key_tree.proofs.entries.named.Given as goal

abbrev pub invariant-loop-j : goal.invariant-loop-j
invariant-loop-j l = (d : Looked) → NamedSoFar l.keys (slice_index_or l.seen l.i d).slots l.j l.children.items
