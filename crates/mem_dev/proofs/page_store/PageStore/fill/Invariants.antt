use Rattle.std.proofs.Common.{◌≡◌, IsTrue, length, take}
use Rattle.mem_dev.specs.Store.{content_of, is_full}
use Rattle.mem_dev.proofs.page_store.PageStore.fill.Given as goal

abbrev pub invariant-loop-n : goal.invariant-loop-n
invariant-loop-n l = record {
  content : content_of l.self ≡ content_of l.fn.self;
  long : length l.self ≡ length l.fn.self;
  full : IsTrue (is_full (take l.n l.self));
}
