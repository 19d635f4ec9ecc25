use Rattle.mem_dev.proofs.StoreLemmas.{concat-more}
use Rattle.mem_dev.proofs.page_store.PageStore.to_bytes.Goals as goal

pub loop-page-preserved : goal.loop-page-preserved
loop-page-preserved c = concat-more c.deref-page-items.result.now c.loop-page.page-index c.page-item.result c.loop-page.bytes.items _ c.loop-page-test.true c.page-item.is c.loop-page.invariant c.in_ok-append_page.ensures
