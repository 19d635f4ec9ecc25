use Rattle.std.proofs.Common.{◌+◌, take, get_or, [], ◌∙◌, arith}
use Rattle.page_fmt.specs.Spelling.{row_bytes}
use Rattle.page_fmt.specs.Content.{content}
use Rattle.page_fmt.proofs.PlaceLemmas.{page_size, page_offset}
use Rattle.page_fmt.proofs.SetLemmas.{empty_is}
use Rattle.page_fmt.proofs.editing.is_empty.Goals as goal

pub number-requires : goal.number-requires
number-requires c = omega (arith, page_size c.args.page.now c.requires.page)

pub returns : goal.returns
returns c = empty_is (96 + row_bytes (take c.args.i (content c.args.page.now))) _ (get_or (content c.args.page.now) c.args.i []) (omega arith) (c.number.ensures ∙ page_offset c.args.page.now c.requires.page c.args.i c.requires.index)
