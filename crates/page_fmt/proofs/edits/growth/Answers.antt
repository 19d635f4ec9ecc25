use Rattle.std.proofs.Common.{◌≡◌, ◌+◌, max, [], length, get_or, ap, arith}
use Rattle.page_fmt.specs.Spelling.{row_bytes}
use Rattle.page_fmt.specs.Content.{content}
use Rattle.page_fmt.specs.Edits.{set_slot}
use Rattle.page_fmt.proofs.SlotLemmas.{length-set_slot, row_bytes-set_slot, row_bytes-slot}
use Rattle.page_fmt.proofs.edits.growth.Goals as goal

pub overflow_cast-slot : goal.overflow_cast-slot
overflow_cast-slot c = omega (arith, ap length c.slot.ensures, row_bytes-slot (content c.args.image.now) c.args.i, c.requires.page.fits.small)

pub returns : goal.returns
returns c =
    let grown : row_bytes (set_slot (content c.args.image.now) c.args.i c.args.bytes.now) + length (get_or (content c.args.image.now) c.args.i []) ≡ row_bytes (content c.args.image.now) + length c.args.bytes.now = row_bytes-set_slot (content c.args.image.now) c.args.i c.args.bytes.now in
    let long : length (set_slot (content c.args.image.now) c.args.i c.args.bytes.now) ≡ max (length (content c.args.image.now)) (c.args.i + 1) = length-set_slot (content c.args.image.now) c.args.i c.args.bytes.now in
    let old : length c.slot.result.now ≡ length (get_or (content c.args.image.now) c.args.i []) = ap length c.slot.ensures in
    omega (arith, c.slots.ensures, c.saturating_sub.ensures, c.saturating_sub-2.ensures)
