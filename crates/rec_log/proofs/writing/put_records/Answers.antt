-- One more record is written.
use Rattle.rec_log.proofs.LogLemmas.{more_records}
use Rattle.rec_log.proofs.writing.put_records.Goals as goal

pub loop-rec-preserved : goal.loop-rec-preserved
loop-rec-preserved c = more_records c.args.recs.now c.loop-rec.rec-index c.rec-item.result c.args.out.now.items c.loop-rec.out.items c.put_record.new.out.items c.loop-rec-test.true c.rec-item.is c.loop-rec.invariant.0 c.loop-rec.invariant.1 c.in_ok-put_record.ensures.ok c.in_ok-put_record.ensures.logged
