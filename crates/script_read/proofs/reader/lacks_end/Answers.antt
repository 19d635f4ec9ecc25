use Rattle.std.proofs.Common.{◌≡◌, ◌++◌, ◌∷◌, []}
use Rattle.script_read.proofs.LineLemmas.{closed, closed_lines}
use Rattle.script_read.proofs.reader.lacks_end.Goals as goal

pub returns-in-Some-clause-text : goal.returns-in-Some-clause-text
returns-in-Some-clause-text c =
    let split : c.args.text.now ≡ c.in-Some.field-0-1.now ++ c.in-Some.last.now ∷ [] = c.in-Some.ensures.cases.0 in
    rw split (closed c.in-Some.field-0-1.now c.in-Some.last.now)

pub returns-in-Some-clause-lines : goal.returns-in-Some-clause-lines
returns-in-Some-clause-lines c =
    let split : c.args.text.now ≡ c.in-Some.field-0-1.now ++ c.in-Some.last.now ∷ [] = c.in-Some.ensures.cases.0 in
    rw split (closed_lines c.in-Some.field-0-1.now c.in-Some.last.now)
