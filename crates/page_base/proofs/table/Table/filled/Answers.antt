use Rattle.std.proofs.Common.{◌≡◌, replicate, get_or, arith}
use Rattle.std.proofs.lemmas.Grind.{common_steps}
use Rattle.page_base.proofs.PagesLemmas.{filled_more}
use Rattle.page_base.proofs.table.Table.filled.Goals as goal

pub loop-count-preserved : goal.loop-count-preserved
loop-count-preserved g c =
    let items = c.in_ok-resize.ensures.items in
    let row : c.resize.new.self.items ≡ replicate (get_or c.args.counts.now c.loop-count.count-index 0) c.args.value = grind (arith, common_steps, items) in
    rw c.in_ok-push.ensures.items (filled_more (λ row. row.items) c.loop-count.rows.items _ _ c.resize.new.self c.args.value c.loop-count-test.true row c.loop-count.invariant)
