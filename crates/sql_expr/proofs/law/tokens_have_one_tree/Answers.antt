use Rattle.sql_expr.proofs.LawLemmas.{one_tree}
use Rattle.sql_expr.proofs.law.tokens_have_one_tree.Goals as goal

pub returns : goal.returns
returns c = one_tree
