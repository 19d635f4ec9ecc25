use Rattle.std.proofs.Common.{◌≡◌, ap, ◌∙◌, arith}
use Rattle.page_fmt.specs.Spelling.{row_bytes}
use Rattle.page_fmt.specs.Content.{content, le16_at}
use Rattle.page_fmt.proofs.SpellingLemmas.{page_bytes}
use Rattle.page_fmt.proofs.edits.free_bytes.Goals as goal

pub overflow_sub-result : goal.overflow_sub-result
overflow_sub-result c =
    let rows : c.number.result ≡ row_bytes (content c.args.image.now) = c.number.ensures ∙ ap (λ p. le16_at p 2) c.bytes.ensures.value ∙ page_bytes c.args.image.now (content c.args.image.now) c.requires.spelled in
    omega (arith, c.requires.fits.small)

pub overflow_sub-result-2 : goal.overflow_sub-result-2
overflow_sub-result-2 c =
    let rows : c.number.result ≡ row_bytes (content c.args.image.now) = c.number.ensures ∙ ap (λ p. le16_at p 2) c.bytes.ensures.value ∙ page_bytes c.args.image.now (content c.args.image.now) c.requires.spelled in
    omega (arith, c.requires.fits.small, c.slots.ensures)

pub returns : goal.returns
returns c =
    let rows : c.number.result ≡ row_bytes (content c.args.image.now) = c.number.ensures ∙ ap (λ p. le16_at p 2) c.bytes.ensures.value ∙ page_bytes c.args.image.now (content c.args.image.now) c.requires.spelled in
    omega (arith, c.requires.fits.small, c.slots.ensures)
