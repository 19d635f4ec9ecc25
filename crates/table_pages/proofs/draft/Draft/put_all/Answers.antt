use Rattle.std.proofs.Common.{arith}
use Rattle.table_pages.proofs.DraftLemmas.{put_more, put_stops, put_end}
use Rattle.table_pages.proofs.draft.Draft.put_all.Goals as goal

pub returns-then-not-branch-clause-put : goal.returns-then-not-branch-clause-put
returns-then-not-branch-clause-put c = λ old h all.
    put_stops c.args.cols.now c.args.rows.now c.args.self.now.page old c.loop-row.self.page c.loop-row.self.index c.loop-row.row-index c.row-item.result c.loop-row-test.true c.row-item.is (c.loop-row.invariant.so_far old h) (λ rows. c.in_ok-put.ensures.lacks rows c.if-not-branch.true)

pub loop-row-preserved : goal.loop-row-preserved
loop-row-preserved c = record {
  page = c.in_ok-put.ensures.page;
  full = c.in_ok-put.ensures.full;
  so_far = λ old h.
      put_more c.args.cols.now c.args.rows.now c.args.self.now.page old c.loop-row.self.page c.loop-row.self.index c.loop-row.row-index c.row-item.result c.put.new.self.page c.put.new.self.index c.loop-row.invariant.page c.loop-row-test.true c.row-item.is
      (c.loop-row.invariant.so_far old h) (λ rows. c.in_ok-put.ensures.put rows c.if-not-branch.false);
}

pub returns-clause-put : goal.returns-clause-put
returns-clause-put c = λ old h all. put_end c.args.cols.now c.args.rows.now c.args.self.now.page old c.loop-row.self.page c.loop-row.self.index c.loop-row.row-index c.loop-row-test.false (c.loop-row.invariant.so_far old h)
