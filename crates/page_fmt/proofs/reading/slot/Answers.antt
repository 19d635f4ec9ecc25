use Rattle.std.proofs.Common.{◌≡◌, ◌+◌, ◌-◌, ◌*◌, [], length, ap, sym, ◌∙◌, arith}
use Rattle.std.proofs.lemmas.List.{get_or_past}
use Rattle.page_fmt.specs.Content.{le16_at, content, next_start, offsets_at, row_end}
use Rattle.page_fmt.proofs.ReadingLemmas.{length-content, slot-content, clamped, slot_between}
use Rattle.page_fmt.proofs.reading.slot.Goals as goal

pub returns-then-i-count : goal.returns-then-i-count
returns-then-i-count c =
    let count : c.number-count.result ≡ length (content c.args.image.now) = c.number-count.ensures ∙ ap (λ p. le16_at p 0) c.bytes-page.ensures.value ∙ sym (length-content c.args.image.now) in
    sym (get_or_past (content c.args.image.now) c.args.i [] (omega arith))

pub returns-then-start-eq0 : goal.returns-then-start-eq0
returns-then-start-eq0 c =
    let page : c.bytes-page.result.now ≡ c.args.image.now = c.bytes-page.ensures.value in
    let count : c.number-count.result ≡ le16_at c.args.image.now 0 = c.number-count.ensures ∙ ap (λ p. le16_at p 0) page in
    let start : 0 ≡ le16_at c.args.image.now (8190 - 2 * c.args.i) = sym c.if-start-eq0.true ∙ c.number-start.ensures ∙ (λ i. le16_at (page i) (c.saturating_sub.ensures i)) in
    (λ i. slot_between c.args.image.now (start i) (next_start (row_end c.args.image.now) (offsets_at c.args.image.now (8190 - 2 * (c.args.i + 1)) (le16_at c.args.image.now 0 - (c.args.i + 1)))))
    ∙ sym (slot-content c.args.image.now c.args.i (omega arith))

pub returns : goal.returns
returns c =
    let page : c.bytes-page.result.now ≡ c.args.image.now = c.bytes-page.ensures.value in
    let count : c.number-count.result ≡ le16_at c.args.image.now 0 = c.number-count.ensures ∙ ap (λ p. le16_at p 0) page in
    let start : c.number-start.result ≡ le16_at c.args.image.now (8190 - 2 * c.args.i) = c.number-start.ensures ∙ (λ i. le16_at (page i) (c.saturating_sub.ensures i)) in
    let end : c.next_row.result ≡ next_start (row_end c.args.image.now) (offsets_at c.args.image.now (8190 - 2 * (c.args.i + 1)) (le16_at c.args.image.now 0 - (c.args.i + 1))) =
    c.next_row.ensures ∙ (λ i. next_start (row_end (page i)) (offsets_at (page i) (8190 - 2 * (c.args.i + 1)) (count i - (c.args.i + 1)))) in
    clamped c.bytes-page.result.now c.number-start.result c.next_row.result c.min-end.result c.min.result c.min-end.ensures c.min.ensures c.if-start-eq0.false
    ∙ (λ i. slot_between (page i) (start i) (end i))
    ∙ sym (slot-content c.args.image.now c.args.i (omega arith))
