use Rattle.std.proofs.Common.{◌∙◌, sym}
use Rattle.row_fmt.proofs.FieldLemmas.{IsText-true, IsText-back}
use Rattle.row_fmt.proofs.fitting.may_hold.Goals as goal

pub returns : goal.returns
returns c = (λ yes. IsText-true c.args.max c.args.text.now (sym c.is_text.ensures ∙ yes), λ text. c.is_text.ensures ∙ IsText-back c.args.max c.args.text.now text)
