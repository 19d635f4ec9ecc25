-- The exits of the loop over a commit's records.
use Rattle.std.proofs.Common.{◌≡◌, ℕ, ◌-◌, ◌<◌, List}
use Rattle.page_base.specs.Reading.{Read, times_at}
use Rattle.page_base.proofs.TimesLoop.{with_front, times_stop}
use Rattle.byte_fields.specs.declared.stop.Stop.{Stop}
use Rattle.byte_fields.specs.declared.stop.Stop.TheVariants as stop
use Rattle.byte_fields.specs.Answers.{Fails}
use Rattle.rec_log.specs.Records.{Record}
use Rattle.rec_log.specs.Reading.{record_at}

pub records_stop : (e : Stop) (front : List Record) (count i : ℕ) (bytes rest : List ℕ) (total : Read (List Record)) → i < count → Fails e rest (record_at bytes) → with_front front (times_at record_at (count - i) bytes) ≡ total → Fails e rest total
records_stop stop.Form front count i bytes rest total lt h so_far = times_stop record_at front count i bytes total so_far rest lt h
records_stop stop.Memory front count i bytes rest total lt h so_far = tt
