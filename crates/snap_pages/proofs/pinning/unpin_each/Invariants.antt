use Rattle.std.proofs.Common.{◌≡◌, take}
use Rattle.buf_pool.specs.Pool.{pins}
use Rattle.buf_pool.specs.Steps.{SameShown}
use Rattle.snap_pages.specs.Owed.{without_pins_of}
use Rattle.snap_pages.proofs.pinning.unpin_each.Given as goal

abbrev pub invariant-loop-rec : goal.invariant-loop-rec
invariant-loop-rec g l = record {
  pinned : pins l.pool ≡ without_pins_of (take l.rec-index l.recs) (pins l.fn.pool);
  shown : SameShown l.fn.pool l.pool;
}
