use Rattle.std.proofs.Common.{sym, ◌∙◌}
use Rattle.early_engine.proofs.NameLemmas.{once_is}
use Rattle.early_engine.proofs.creating.is_the_file.Goals as goal

pub returns-then-len-eq1 : goal.returns-then-len-eq1
returns-then-len-eq1 c = c.is_same.ensures.test ∙ sym (once_is c.args.files.now c.at.result.now c.args.file.now (sym c.len.ensures ∙ c.if-len-eq1.true) (c.at.ensures.value c.at.result.now))
