use Rattle.std.proofs.Common.{◌+◌, length}
use Rattle.page_fmt.specs.Seen.{Looked}
use Rattle.page_draft.specs.Reading.{read_slots}
use Rattle.page_draft.proofs.CodeLemmas.{RoundSoFar}
use Rattle.page_draft.proofs.edits.add_round.Given as goal

abbrev pub invariant-loop-i : goal.invariant-loop-i
invariant-loop-i l = (d : Looked) → RoundSoFar l.grows l.page (read_slots l.seen l.place d) (length (read_slots l.seen l.place d) + length l.page.cells) l.i l.fn.edits l.edits
