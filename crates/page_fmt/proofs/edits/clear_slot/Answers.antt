use Rattle.std.proofs.Common.{◌<◌, length, ap, sym, ◌∙◌, arith}
use Rattle.page_fmt.specs.Spelling.{spell}
use Rattle.page_fmt.specs.Content.{content}
use Rattle.page_fmt.specs.Edits.{cleared}
use Rattle.page_fmt.proofs.SetLemmas.{page_of, content_of, FitsPage-cleared, cleared-past}
use Rattle.page_fmt.proofs.edits.clear_slot.Goals as goal

pub returns-then-i-slots-clause-page : goal.returns-then-i-slots-clause-page
returns-then-i-slots-clause-page c =
    let there : c.args.i < length (content c.args.image.now) = omega (arith, c.slots.ensures) in
    page_of c.clear.new.page (cleared (content c.args.image.now) c.args.i) (c.clear.ensures ∙ ap (λ p. spell (cleared (content p) c.args.i)) c.bytes_mut.ensures.value)
    (FitsPage-cleared (content c.args.image.now) c.args.i there c.requires.fits)

pub returns-then-i-slots-clause-cleared : goal.returns-then-i-slots-clause-cleared
returns-then-i-slots-clause-cleared c =
    let there : c.args.i < length (content c.args.image.now) = omega (arith, c.slots.ensures) in
    content_of c.clear.new.page (cleared (content c.args.image.now) c.args.i) (c.clear.ensures ∙ ap (λ p. spell (cleared (content p) c.args.i)) c.bytes_mut.ensures.value)
    (FitsPage-cleared (content c.args.image.now) c.args.i there c.requires.fits).small

pub returns-else-i-slots-clause-cleared : goal.returns-else-i-slots-clause-cleared
returns-else-i-slots-clause-cleared c = sym (cleared-past (content c.args.image.now) c.args.i (omega (arith, c.slots.ensures)) c.requires.fits.last)
