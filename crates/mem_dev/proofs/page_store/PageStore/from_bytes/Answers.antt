use Rattle.std.proofs.Common.{◌≡◌, ◌*◌, ◌+◌, ◌++◌, ◌∷◌, [], length, take, drop, ap, sym, ◌∙◌, arith}
use Rattle.std.proofs.lemmas.List.{drop-drop, length-map}
use Rattle.page_dev.proofs.PageFileLemmas.{length-pages_of}
use Rattle.mem_dev.specs.Store.{bytes_of}
use Rattle.mem_dev.proofs.StoreLemmas.{pages_of-push, content-push, images-push, full-push}
use Rattle.mem_dev.proofs.page_store.PageStore.from_bytes.Goals as goal

pub loop-preserved : goal.loop-preserved
loop-preserved c =
    let next : 8192 * c.loop.counter + 8192 ≡ 8192 * (c.loop.counter + 1) = omega arith in
    let page : c.set_bytes.new.self ≡ take 8192 (drop (8192 * c.loop.counter) c.args.bytes.now) = c.set_bytes.ensures ∙ c.split_at.ensures.front ∙ ap (take 8192) c.loop.invariant.rest in
    let long : length c.set_bytes.new.self ≡ 8192 = ap length c.set_bytes.ensures ∙ c.split_at.ensures.front_len in
    rw c.in_ok-push.ensures.items (record {
      rest = c.split_at.ensures.back ∙ ap (drop 8192) c.loop.invariant.rest ∙ drop-drop 8192 (8192 * c.loop.counter) c.args.bytes.now ∙ ap (λ k. drop k c.args.bytes.now) next;
      content = content-push c.loop.pages.items c.set_bytes.new.self ∙ (λ i. c.loop.invariant.content i ++ page i ∷ []) ∙ sym (pages_of-push c.loop.counter c.args.bytes.now);
      full = full-push c.loop.pages.items c.set_bytes.new.self c.loop.invariant.full;
      images = images-push c.loop.pages.items c.set_bytes.new.self long c.loop.invariant.images;
    })

pub invariant_of-result : goal.invariant_of-result
invariant_of-result c = record {
  images = c.loop.invariant.images;
  few = omega (arith, ap length c.loop.invariant.content, length-map c.loop.pages.items bytes_of, length-pages_of c.loop.counter c.args.bytes.now);
}
