use Rattle.std.proofs.Common.{◌≡◌, IsTrue, ◌*◌, drop}
use Rattle.page_dev.specs.PageFile.{pages_of}
use Rattle.mem_dev.specs.Store.{content_of, is_full, are_images}
use Rattle.mem_dev.proofs.page_store.PageStore.from_bytes.Given as goal

abbrev pub invariant-loop : goal.invariant-loop
invariant-loop l = record {
  rest : l.rest ≡ drop (8192 * l.counter) l.bytes;
  content : content_of l.pages.items ≡ pages_of l.counter l.bytes;
  full : IsTrue (is_full l.pages.items);
  images : IsTrue (are_images l.pages.items);
}
