use Rattle.std.proofs.Common.{◌≤◌, ap, ◌∙◌, arith}
use Rattle.page_fmt.specs.Spelling.{spell, used}
use Rattle.page_fmt.specs.Content.{content}
use Rattle.page_fmt.specs.Edits.{set_slot}
use Rattle.page_fmt.proofs.SetLemmas.{page_of, content_of, FitsPage-set_slot}
use Rattle.page_fmt.proofs.edits.put_slot.Goals as goal

pub returns-clause-page : goal.returns-clause-page
returns-clause-page c =
    let room : used (set_slot (content c.args.image.now) c.args.i c.args.bytes.now) ≤ 8192 = omega (arith, c.requires.page.fits.small) in
    page_of c.set.new.page (set_slot (content c.args.image.now) c.args.i c.args.bytes.now) (c.set.ensures ∙ ap (λ p. spell (set_slot (content p) c.args.i c.args.bytes.now)) c.bytes_mut.ensures.value)
    (FitsPage-set_slot (content c.args.image.now) c.args.i c.args.bytes.now c.requires.page.fits c.requires.some room)

pub returns-clause-ok : goal.returns-clause-ok
returns-clause-ok c =
    let room : used (set_slot (content c.args.image.now) c.args.i c.args.bytes.now) ≤ 8192 = omega (arith, c.requires.page.fits.small) in
    content_of c.set.new.page (set_slot (content c.args.image.now) c.args.i c.args.bytes.now) (c.set.ensures ∙ ap (λ p. spell (set_slot (content p) c.args.i c.args.bytes.now)) c.bytes_mut.ensures.value) room
