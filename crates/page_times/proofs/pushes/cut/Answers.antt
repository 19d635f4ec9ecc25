-- No record, no pin.
use Rattle.std.proofs.Common.{◌≡◌, ◌∙◌, ap, arith}
use Rattle.rec_log.specs.Records.{WorkOf}
use Rattle.snap_pages.specs.Owed.{count_on}
use Rattle.page_times.proofs.pushes.cut.Goals as goal

pub returns-clause-free : goal.returns-clause-free
returns-clause-free c = λ p.
    (λ i. c.add.ensures.pins i p)
    ∙ (let free = c.requires.free p in let none : count_on c.none.result.recs p ≡ 0 = ap (λ (w : WorkOf). count_on w.recs p) c.none.ensures in omega arith)
