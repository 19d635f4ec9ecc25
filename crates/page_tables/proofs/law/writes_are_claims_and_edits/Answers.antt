use Rattle.page_tables.proofs.WriteLemmas.{claims_done, edits_done}
use Rattle.page_tables.proofs.law.writes_are_claims_and_edits.Goals as goal

pub returns-clause-claims : goal.returns-clause-claims
returns-clause-claims c = claims_done

pub returns-clause-edits : goal.returns-clause-edits
returns-clause-edits c = edits_done
