use Rattle.sys_cat.proofs.ChangeLemmas.{tables_put, tables_cut}
use Rattle.sys_cat.proofs.law.tables_are_put_and_cut.Goals as goal

pub returns-clause-put : goal.returns-clause-put
returns-clause-put c = tables_put

pub returns-clause-cut : goal.returns-clause-cut
returns-clause-cut c = tables_cut
