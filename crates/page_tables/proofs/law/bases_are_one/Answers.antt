use Rattle.page_tables.proofs.BaseLemmas.{descs_one, tables_one}
use Rattle.page_tables.proofs.law.bases_are_one.Goals as goal

pub returns-clause-descs : goal.returns-clause-descs
returns-clause-descs c = descs_one

pub returns-clause-tables : goal.returns-clause-tables
returns-clause-tables c = tables_one
