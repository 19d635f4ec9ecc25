use Rattle.std.proofs.Common.{◌-◌, arith}
use Rattle.page_fmt.specs.Content.{content}
use Rattle.page_fmt.proofs.PaddingLemmas.{cut_step, cut_end}
use Rattle.page_fmt.proofs.editing.full_count.Goals as goal

pub returns-then-not-is_empty : goal.returns-then-not-is_empty
returns-then-not-is_empty c =
    cut_end (content c.args.page.now) (c.loop-count.count - 1) c.loop-count.count _ (omega arith) (omega arith) (λ e. (let t = c.is_empty.ensures.1 e in cc)) c.loop-count.invariant.same

pub loop-count-preserved : goal.loop-count-preserved
loop-count-preserved c = record {
  within = omega arith;
  same = cut_step (content c.args.page.now) (c.loop-count.count - 1) c.loop-count.count _ (omega arith) (omega arith) (c.is_empty.ensures.0 c.if-not-is_empty.false) c.loop-count.invariant.same;
}
