use Rattle.sql_eval.proofs.LawLemmas.{value_overflows, truth_overflows}
use Rattle.sql_eval.proofs.law.an_overflow_is_that_of_the_whole.Goals as goal

pub returns : goal.returns
returns c = record { values = value_overflows; truths = truth_overflows }
