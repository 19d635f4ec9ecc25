use Rattle.std.proofs.Common.{ap, sym, ◌∙◌}
use Rattle.sql_lex.specs.Texts.{doubled}
use Rattle.sql_lex.proofs.FileLemmas.{name_of}
use Rattle.sql_lex.proofs.quoted.Quoted.name.Goals as goal

pub returns : goal.returns
returns c = rw c.ok.ensures.value (name_of c.args.self.now c.self.inside.bytes.now c.read.result (sym c.self.invariant ∙ ap doubled c.self.view_is) c.read.ensures)
