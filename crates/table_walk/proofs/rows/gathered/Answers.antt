use Rattle.page_fmt.specs.Seen.{look}
use Rattle.table_walk.proofs.VisitLemmas.{visits_begin, visits_more}
use Rattle.table_walk.proofs.rows.gathered.Goals as goal

pub loop-visit-init : goal.loop-visit-init
loop-visit-init c = ((λ all e. visits_begin c.args.cols.now c.args.keys.now c.new-rows.result c.new-rows.ensures all e), tt)

pub loop-visit-preserved : goal.loop-visit-preserved
loop-visit-preserved c = visits_more c.args.cols.now c.args.keys.now (look c.args.seen.now) c.args.done.now c.loop-visit.visit-index _ c.loop-visit.rows c.add_visit.new.rows c.loop-visit-test.true c.loop-visit.invariant c.in_ok-add_visit.ensures.rows c.in_ok-add_visit.ensures.are
