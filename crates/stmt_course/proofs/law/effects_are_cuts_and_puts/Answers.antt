use Rattle.stmt_course.proofs.ApplyLemmas.{effect_applied}
use Rattle.stmt_course.proofs.StandLemmas.{is_table, may_all_be_put}
use Rattle.stmt_course.proofs.law.effects_are_cuts_and_puts.Goals as goal

pub returns-clause-table : goal.returns-clause-table
returns-clause-table c = is_table

pub returns-clause-changes : goal.returns-clause-changes
returns-clause-changes c = effect_applied

pub returns-clause-puts : goal.returns-clause-puts
returns-clause-puts c = may_all_be_put
