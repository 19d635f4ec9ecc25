use Rattle.step_trail.proofs.AnswerLemmas.{answer_begun}
use Rattle.step_trail.proofs.law.an_answer_ends_what_has_begun.Goals as goal

pub returns : goal.returns
returns c = answer_begun
