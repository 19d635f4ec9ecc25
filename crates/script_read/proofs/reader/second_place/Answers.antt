use Rattle.script_read.proofs.LineLemmas.{behind}
use Rattle.script_read.proofs.reader.second_place.Goals as goal

pub returns-clause-within : goal.returns-clause-within
returns-clause-within c = (behind c.args.text.now c.line_len.result c.line_len.ensures.value c.requires.whole c.requires.some).within
