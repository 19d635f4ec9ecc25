-- The pages of the visits so far are given back.
use Rattle.std.proofs.Common.{◌≡◌, map, take}
use Rattle.table_walk.specs.declared.visit.Visit.{Visit}
use Rattle.stmt_course.specs.Defining.{release_edit}
use Rattle.stmt_prog.proofs.dropping.releases.Given as goal

abbrev pub invariant-loop-visit : goal.invariant-loop-visit
invariant-loop-visit l = l.edits ≡ map release_edit (map (λ (v : Visit). v.page) (take l.visit-index l.done))
