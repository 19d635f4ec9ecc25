use Rattle.open_tables.proofs.BackLemmas.{claims, claimed, edits}
use Rattle.open_tables.proofs.law.records_lie_where_their_session_writes.Goals as goal

pub returns-clause-claims : goal.returns-clause-claims
returns-clause-claims c = claims

pub returns-clause-claimed : goal.returns-clause-claimed
returns-clause-claimed c = claimed

pub returns-clause-edits : goal.returns-clause-edits
returns-clause-edits c = edits
