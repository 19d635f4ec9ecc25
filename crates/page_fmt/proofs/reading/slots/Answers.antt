use Rattle.std.proofs.Common.{ap, sym, ◌∙◌}
use Rattle.page_fmt.specs.Content.{le16_at}
use Rattle.page_fmt.proofs.ReadingLemmas.{length-content}
use Rattle.page_fmt.proofs.reading.slots.Goals as goal

pub returns : goal.returns
returns c = c.number.ensures ∙ ap (λ p. le16_at p 0) c.bytes.ensures.value ∙ sym (length-content c.args.image.now)
