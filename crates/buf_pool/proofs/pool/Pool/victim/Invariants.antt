use Rattle.std.proofs.Common.{◌≡◌, length, Contains}
use Rattle.page_base.specs.declared.numbers.PageId.{PageId}
use Rattle.buf_pool.specs.declared.frame.Frame.{Frame}
use Rattle.buf_pool.specs.Order.{last_unpinned}
use Rattle.buf_pool.proofs.pool.Pool.victim.Given as goal

abbrev pub invariant-loop-page : goal.invariant-loop-page
invariant-loop-page g l = record {
  same : last_unpinned l.entries ≡ last_unpinned l.fn.self.entries;
  among : (e : PageId × Frame) → Contains l.entries e → Contains l.fn.self.entries e;
}

abbrev pub decreases-loop-page : goal.decreases-loop-page
decreases-loop-page g l = length l.entries
