use Rattle.step_words.proofs.TakenLemmas.{claim_moves, edit_moves}
use Rattle.step_words.proofs.law.what_comes_moves_by_one.Goals as goal

pub returns-clause-claim : goal.returns-clause-claim
returns-clause-claim c = claim_moves

pub returns-clause-edit : goal.returns-clause-edit
returns-clause-edit c = edit_moves
