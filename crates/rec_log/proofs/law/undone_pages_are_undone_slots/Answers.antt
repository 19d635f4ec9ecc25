use Rattle.rec_log.proofs.UndonePagesLemmas.{slots_in-undone_at, AreFull-undone_at}
use Rattle.rec_log.proofs.law.undone_pages_are_undone_slots.Goals as goal

pub returns : goal.returns
returns c = record { slots = slots_in-undone_at; full = AreFull-undone_at }
