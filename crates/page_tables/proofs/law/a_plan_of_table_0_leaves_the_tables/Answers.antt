use Rattle.page_tables.proofs.CarriedLemmas.{carried_zero}
use Rattle.page_tables.proofs.law.a_plan_of_table_0_leaves_the_tables.Goals as goal

pub returns-clause-plan : goal.returns-clause-plan
returns-clause-plan c = λ counts at ds tables claimed n edits rows b claimable plan. carried_zero counts at ds tables b claimed n claimable edits rows plan

pub returns-clause-base : goal.returns-clause-base
returns-clause-base c = λ counts at rows ds tables s told. record { spread = s.spread; zero_rows = rows; zero_pages = s.zero_pages; descs = told; each = s.each; only = s.only; owners = s.owners; blank = s.blank }
