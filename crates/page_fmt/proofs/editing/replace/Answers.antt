use Rattle.std.proofs.Common.{arith, length-set}
use Rattle.page_fmt.specs.Content.{content}
use Rattle.page_fmt.proofs.ReplaceLemmas.{row_bytes-set, replaced}
use Rattle.page_fmt.proofs.editing.replace.Goals as goal

pub replace_row-requires-clause-room : goal.replace_row-requires-clause-room
replace_row-requires-clause-room c = omega (arith, row_bytes-set (content c.args.page.now) c.args.i c.args.bytes.now c.requires.index, length-set (content c.args.page.now) c.args.i c.args.bytes.now, c.requires.room)

pub overflow_cast-bytes : goal.overflow_cast-bytes
overflow_cast-bytes c = omega (arith, row_bytes-set (content c.args.page.now) c.args.i c.args.bytes.now c.requires.index, length-set (content c.args.page.now) c.args.i c.args.bytes.now, c.requires.room)

pub overflow_cast-end : goal.overflow_cast-end
overflow_cast-end c = omega (arith, row_bytes-set (content c.args.page.now) c.args.i c.args.bytes.now c.requires.index, length-set (content c.args.page.now) c.args.i c.args.bytes.now, c.requires.room)

pub returns : goal.returns
returns c =
    replaced c.args.page.now c.replace_row.new.page c.move_table.new.page c.write_number.new.page c.write_number-2.new.page (content c.args.page.now) c.args.i c.offset.result _ _ _ _ c.args.bytes.now c.requires.page.spelled c.requires.index c.place_of-start.ensures.place c.requires.room c.replace_row.ensures c.move_table.ensures c.offset.ensures c.write_number.ensures c.write_number-2.ensures
