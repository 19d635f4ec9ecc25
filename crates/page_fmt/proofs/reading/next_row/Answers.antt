use Rattle.std.proofs.Common.{ap, sym, ◌∙◌, ◌-◌, ◌*◌, ◌≡◌}
use Rattle.page_fmt.specs.Content.{row_end, le16_at}
use Rattle.page_fmt.proofs.ReadingLemmas.{next_start-step}
use Rattle.page_fmt.proofs.reading.next_row.Goals as goal

pub loop-i-preserved : goal.loop-i-preserved
loop-i-preserved c =
    let none : le16_at c.args.page.now (8190 - 2 * c.loop-i.i) ≡ 0 = ap (le16_at c.args.page.now) (sym c.saturating_sub.ensures) ∙ sym c.number-start.ensures ∙ c.if-start-ne0.false in
    next_start-step c.args.page.now (row_end c.args.page.now) c.loop-i.i c.args.count c.loop-i-test.true none ∙ c.loop-i.invariant
