-- A record that is written is as the log holds it.
use Rattle.std.proofs.Common.{subst}
use Rattle.rec_log.specs.Entries.{IsLogged}
use Rattle.rec_log.proofs.LogLemmas.{on_ok}
use Rattle.rec_log.proofs.writing.put_record.Goals as goal

pub returns-clause-logged : goal.returns-clause-logged
returns-clause-logged c = on_ok (subst IsLogged c.rec.view_is (record { limits = c.rec.invariant; number = c.put_address.ensures.number })) c.put_text-2.result
