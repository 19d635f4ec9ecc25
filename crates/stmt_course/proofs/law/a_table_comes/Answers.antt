use Rattle.stmt_course.proofs.TableLemmas.{table_brought}
use Rattle.stmt_course.proofs.law.a_table_comes.Goals as goal

pub returns : goal.returns
returns c = table_brought
