use Rattle.std.proofs.Common.{◌≡◌, take}
use Rattle.std.specs.List.{concat}
use Rattle.mem_dev.specs.Store.{content_of}
use Rattle.mem_dev.proofs.page_store.PageStore.to_bytes.Given as goal

abbrev pub invariant-loop-page : goal.invariant-loop-page
invariant-loop-page l = l.bytes.items ≡ concat (content_of (take l.page-index l.page-items))
