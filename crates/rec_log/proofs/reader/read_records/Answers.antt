-- One more record, a wrong one, and the last one.
use Rattle.std.proofs.Common.{◌≡◌, ◌++◌, ◌∷◌, [], List, ◌+◌, ◌-◌, ap, ◌∙◌}
use Rattle.std.proofs.lemmas.Result.{err_from_is_err_and}
use Rattle.page_base.specs.Reading.{times_at}
use Rattle.page_base.proofs.TimesLoop.{with_front, times_more, times_end}
use Rattle.rec_log.specs.Records.{Record}
use Rattle.rec_log.specs.Reading.{record_at}
use Rattle.rec_log.proofs.Looping.{records_stop}
use Rattle.rec_log.proofs.reader.read_records.Goals as goal

pub returns-in_err-rec : goal.returns-in_err-rec
returns-in_err-rec c =
    let p = err_from_is_err_and c.from_residual-in_err-rec.result c.from_residual-in_err-rec.ensures.1 in
    rw (p.1, p.2) (records_stop c.in_err-rec.field-0.0 c.loop.work.recs c.args.count c.loop.counter c.loop.reader c.read_record.new.reader (times_at record_at c.args.count c.args.reader.now) c.loop-test.true c.in_err-rec.ensures c.loop.invariant)

pub loop-preserved : goal.loop-preserved
loop-preserved c =
    let records : c.push.new.self.recs ≡ c.loop.work.recs ++ c.in_ok-rec.rec ∷ [] = c.push.ensures.recs ∙ ap (λ (rs : List Record). rs ++ c.in_ok-rec.rec ∷ []) c.reserve.ensures.recs in
    ap (λ (rs : List Record). with_front rs (times_at record_at (c.args.count - (c.loop.counter + 1)) c.read_record.new.reader)) records
    ∙ times_more record_at c.loop.work.recs c.args.count c.loop.counter c.loop.reader (times_at record_at c.args.count c.args.reader.now) c.loop.invariant c.in_ok-rec.rec c.read_record.new.reader c.loop-test.true c.in_ok-rec.ensures

pub returns : goal.returns
returns c = times_end record_at c.loop.work.recs c.args.count c.loop.counter c.loop.reader (times_at record_at c.args.count c.args.reader.now) c.loop.invariant c.loop-test.false
