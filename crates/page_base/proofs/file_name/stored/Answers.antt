use Rattle.std.proofs.Common.{length, ◌++◌, ap, ◌∙◌}
use Rattle.std.proofs.lemmas.List.{drop-replicate}
use Rattle.page_base.proofs.file_name.stored.Goals as goal

pub returns : goal.returns
returns c = c.write_front.ensures ∙ ap (λ zeros. c.args.bytes.now ++ zeros) (drop-replicate (length c.args.bytes.now) 128 0)
