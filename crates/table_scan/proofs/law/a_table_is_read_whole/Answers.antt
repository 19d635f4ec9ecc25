use Rattle.table_scan.proofs.ScanLemmas.{next_is_own, not_damaged}
use Rattle.table_scan.proofs.law.a_table_is_read_whole.Goals as goal

pub returns-clause-own : goal.returns-clause-own
returns-clause-own c = next_is_own

pub returns-clause-whole : goal.returns-clause-whole
returns-clause-whole c = not_damaged
