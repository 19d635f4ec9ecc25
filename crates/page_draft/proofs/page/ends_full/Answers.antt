use Rattle.std.proofs.Common.{◌∙◌, sym}
use Rattle.page_draft.proofs.CodeLemmas.{ends_last, none_long}
use Rattle.page_draft.proofs.page.ends_full.Goals as goal

pub returns : goal.returns
returns c = c.is_full.ensures ∙ sym (ends_last c.args.cells.now c.index-cells-cells.result (none_long c.args.cells.now c.is_empty.result c.is_empty.ensures c.if-is_empty.false) c.index-cells-cells.is)
