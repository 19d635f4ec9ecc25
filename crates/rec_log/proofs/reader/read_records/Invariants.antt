-- The records so far, and those still to be read, are those of all.
use Rattle.std.proofs.Common.{◌≡◌, ◌-◌}
use Rattle.page_base.specs.Reading.{times_at}
use Rattle.page_base.proofs.TimesLoop.{with_front}
use Rattle.rec_log.specs.Reading.{record_at}
use Rattle.rec_log.proofs.reader.read_records.Given as goal

abbrev pub invariant-loop : goal.invariant-loop
invariant-loop l = with_front l.work.recs (times_at record_at (l.count - l.counter) l.reader) ≡ times_at record_at l.count l.fn.reader
