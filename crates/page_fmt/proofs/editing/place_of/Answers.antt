use Rattle.std.proofs.Common.{◌≡◌, ◌+◌, ◌-◌, ◌*◌, length, ap, ◌∙◌, arith}
use Rattle.page_fmt.specs.Content.{content, next_start, row_end, offsets_at}
use Rattle.page_fmt.proofs.PlaceLemmas.{page_size, page_count, page_rows, found}
use Rattle.page_fmt.proofs.editing.place_of.Goals as goal

pub number-count-requires : goal.number-count-requires
number-count-requires c = omega (arith, page_size c.args.page.now c.requires.page)

pub next_row-stop-requires-clause-size : goal.next_row-stop-requires-clause-size
next_row-stop-requires-clause-size c = page_size c.args.page.now c.requires.page

pub next_row-stop-requires-clause-order : goal.next_row-stop-requires-clause-order
next_row-stop-requires-clause-order c = omega (arith, c.number-count.ensures, page_count c.args.page.now c.requires.page, c.requires.index)

pub number-requires : goal.number-requires
number-requires c = omega (arith, page_size c.args.page.now c.requires.page)

pub number-requires-2 : goal.number-requires-2
number-requires-2 c = omega (arith, page_size c.args.page.now c.requires.page)

pub overflow_sub-result : goal.overflow_sub-result
overflow_sub-result c = omega (arith, c.number-count.ensures, page_count c.args.page.now c.requires.page, c.requires.page.small)

pub returns-clause-size : goal.returns-clause-size
returns-clause-size c = page_size c.args.page.now c.requires.page

pub returns-clause-place : goal.returns-clause-place
returns-clause-place c =
    let count : c.number-count.result ≡ length (content c.args.page.now) = c.number-count.ensures ∙ page_count c.args.page.now c.requires.page in
    found c.args.page.now c.requires.page c.args.i c.number.result c.next_row-stop.result c.start_of.result _ _ c.requires.index c.number.ensures
    (c.next_row-stop.ensures ∙ ap (λ n. next_start (row_end c.args.page.now) (offsets_at c.args.page.now (8190 - 2 * (c.args.i + 1)) (n - (c.args.i + 1)))) count)
    c.start_of.ensures (ap (λ n. 96 + n) (c.number-2.ensures ∙ page_rows c.args.page.now c.requires.page)) (ap (λ n. 8192 - 2 * n) count)
