use Rattle.std.proofs.Common.{subst}
use Rattle.plain_model.specs.Tables.{IsKeyed}
use Rattle.table_pages.proofs.StoredLemmas.{stored-put, stored-keyed}
use Rattle.table_pages.proofs.stored.StoredTable.put.Goals as goal

pub returns-clause-ok : goal.returns-clause-ok
returns-clause-ok c = stored-put _ _ _ _ _ _ c.self.view_is c.requires c.insert.ensures.was_ordered c.insert.ensures.ordered c.in_ok-insert.ensures.entries

pub invariant_of-self-2 : goal.invariant_of-self-2
invariant_of-self-2 c = stored-keyed _ _ c.args.self.now c.args.row (stored-put _ _ _ _ _ _ c.self.view_is c.requires c.insert.ensures.was_ordered c.insert.ensures.ordered c.in_ok-insert.ensures.entries) (subst IsKeyed c.self.view_is c.self.invariant)
