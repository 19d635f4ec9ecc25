use Rattle.std.proofs.Common.{◌≡◌, replicate, ap, ◌∙◌, arith}
use Rattle.std.specs.Prelude.{None}
use Rattle.mem_dev.specs.Store.{content_of, are_images}
use Rattle.mem_dev.proofs.StoreLemmas.{store-none, content-none, images-none}
use Rattle.mem_dev.proofs.page_store.PageStore.new.Goals as goal

-- the loop pushed as many pages as were asked for
all_pages : (c : goal.After-loop) → c.loop.pages.items ≡ replicate c.args.count None
all_pages c = c.loop.invariant ∙ ap (λ n. replicate n None) (omega (arith, c.loop.auto.counter-end, c.loop-test.false))

pub invariant_of-result : goal.invariant_of-result
invariant_of-result c = rw c.loop.invariant (store-none c.loop.counter (omega arith))

pub returns-clause-zeros : goal.returns-clause-zeros
returns-clause-zeros c = ap content_of (all_pages c) ∙ content-none c.args.count

pub returns-clause-images : goal.returns-clause-images
returns-clause-images c = ap are_images (all_pages c) ∙ images-none c.args.count
