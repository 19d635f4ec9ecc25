use Rattle.stmt_course.proofs.BringLemmas.{rows_brought}
use Rattle.stmt_course.proofs.law.a_plan_brings_its_rows.Goals as goal

pub returns : goal.returns
returns c = rows_brought
