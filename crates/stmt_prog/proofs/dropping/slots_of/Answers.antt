use Rattle.std.proofs.Common.{◌≤◌, [], length, get_or, sym, ◌∙◌, subst, arith}
use Rattle.std.proofs.lemmas.List.{take_all}
use Rattle.page_fmt.specs.Seen.{Looked}
use Rattle.page_fmt.specs.Spelling.{FitsPage}
use Rattle.stmt_prog.proofs.dropping.slots_of.Goals as goal

pub returns-clause-fits : goal.returns-clause-fits
returns-clause-fits c =
    let d : Looked = record { page = record { file = 0; page = 0 }; slots = [] } in
    let past : length (get_or c.args.own.now c.args.i d).slots ≤ c.loop-j.j = omega (arith, c.slots-j-end.ensures.count d) in
    subst FitsPage (sym (c.loop-j.invariant d ∙ take_all c.loop-j.j (get_or c.args.own.now c.args.i d).slots past)) (c.slots-j-end.ensures.fits d)
