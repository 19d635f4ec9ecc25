-- The pages of the visits so far are emptied.
use Rattle.std.proofs.Common.{map, take}
use Rattle.page_fmt.specs.Seen.{look}
use Rattle.table_walk.specs.declared.visit.Visit.{Visit}
use Rattle.page_tables.specs.Dropping.{Empty}
use Rattle.stmt_prog.proofs.dropping.empties.Given as goal

abbrev pub invariant-loop-visit : goal.invariant-loop-visit
invariant-loop-visit l = Empty (look l.own) (map (λ (v : Visit). v.page) (take l.visit-index l.done)) l.edits
