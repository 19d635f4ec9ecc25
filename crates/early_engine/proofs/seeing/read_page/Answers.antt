use Rattle.std.proofs.Common.{◌∙◌, sym, refl}
use Rattle.early_pages.specs.Shown.{img, set_of}
use Rattle.early_engine.proofs.PushLemmas.{turns_none}
use Rattle.early_engine.proofs.SeeLemmas.{seen_through}
use Rattle.early_engine.proofs.seeing.read_page.Goals as goal

pub returns-in-Through-clause-turns : goal.returns-in-Through-clause-turns
returns-in-Through-clause-turns g c = turns_none c.args.ledger.now c.args.pages.now c.args.pages.now refl refl

pub returns-in-Through-clause-read : goal.returns-in-Through-clause-read
returns-in-Through-clause-read g c = λ kept. c.set.ensures ∙ c.image.ensures ∙ sym (seen_through (img c.args.pages.now) (set_of c.args.pages.now c.args.s) c.args.p c.look.result c.in-Through.is c.look.ensures)
