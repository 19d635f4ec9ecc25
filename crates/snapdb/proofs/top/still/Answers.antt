use Rattle.std.proofs.Common.{inl, inr, refl}
use Rattle.snapdb.specs.Headline.{Usage, usage_line}
use Rattle.snapdb.specs.Closed.{told_text}
use Rattle.snapdb.specs.Runs.{Runs}
use Rattle.early_engine.specs.declared.closing.CloseEnd.{CloseEnd}
use Rattle.early_engine.specs.Disks.{disk_of}
use Rattle.snapdb.proofs.Refusals.{writes_line, writes_front}
use Rattle.snapdb.proofs.Closings.{tells_done, tells_close}
use Rattle.snapdb.proofs.top.still.Goals as goal

pub returns-then-not-is_play-clause-refused : goal.returns-then-not-is_play-clause-refused
returns-then-not-is_play-clause-refused g c = λ two. ((usage_line, Usage (λ p. cc (c.if-not-is_play.ensures.1 p)), c.written.ensures.all two), c.new.ensures, refl)

pub returns-then-not-is_play-clause-front : goal.returns-then-not-is_play-clause-front
returns-then-not-is_play-clause-front g c = inr (usage_line, inl (Usage (λ p. cc (c.if-not-is_play.ensures.1 p)), c.new.ensures), c.written.ensures.front)

pub returns-in-Ok-clause-run : goal.returns-in-Ok-clause-run
returns-in-Ok-clause-run g c = inr (c.in-Ok.field-0.end, c.in-Ok.ensures.runs)

pub returns-in-Ok-clause-done : goal.returns-in-Ok-clause-done
returns-in-Ok-clause-done g c = λ zero.
    let due = tells_done _ _ _ _ 0 0 (λ (end : CloseEnd). Runs (disk_of g.V.Volume.tells g.V.Volume.folder g.V.Volume.out g.V.Volume.failures g.V.Volume.file_failures c.args.volume) (disk_of g.V.Volume.tells g.V.Volume.folder g.V.Volume.out g.V.Volume.failures g.V.Volume.file_failures c.in-Ok.field-0.volume) (g.S.Source.left c.args.input.now) (g.S.Source.left c.play.new.input) c.in-Ok.field-0.book end) c.in-Ok.field-0.end c.in-Ok.ensures.runs c.told_status.ensures.known c.told_status.ensures.all zero in
    (c.if-not-is_play.ensures.0 refl, c.in-Ok.ensures.tells, due.0, due.1)

pub returns-in-Ok-clause-closed : goal.returns-in-Ok-clause-closed
returns-in-Ok-clause-closed g c = λ seven.
    (c.if-not-is_play.ensures.0 refl, c.in-Ok.ensures.tells, tells_close _ _ _ _ _ _ (λ (end : CloseEnd). Runs (disk_of g.V.Volume.tells g.V.Volume.folder g.V.Volume.out g.V.Volume.failures g.V.Volume.file_failures c.args.volume) (disk_of g.V.Volume.tells g.V.Volume.folder g.V.Volume.out g.V.Volume.failures g.V.Volume.file_failures c.in-Ok.field-0.volume) (g.S.Source.left c.args.input.now) (g.S.Source.left c.play.new.input) c.in-Ok.field-0.book end) c.in-Ok.field-0.end c.in-Ok.ensures.runs c.in-Ok.ensures.fault c.told_status.ensures.known c.told_status.ensures.all seven)

pub returns-in-Ok-clause-front : goal.returns-in-Ok-clause-front
returns-in-Ok-clause-front g c = inr (
  told_text c.in-Ok.field-0.book c.in-Ok.field-0.end,
  inr (c.if-not-is_play.ensures.0 refl, c.in-Ok.ensures.tells, record { end = c.in-Ok.field-0.end; run = c.in-Ok.ensures.runs; failed = c.in-Ok.ensures.fault; is = refl }),
  c.told_status.ensures.front,
)

pub returns-in-Err-clause-refused : goal.returns-in-Err-clause-refused
returns-in-Err-clause-refused g c = λ two.
    (writes_line _ _ _ _ _ _ _ _ _ _ _ (c.if-not-is_play.ensures.0 refl) c.new-in-Err.ensures c.in-Err.field-0.why c.in-Err.ensures.why c.refused_status.ensures two, c.new-in-Err.ensures, c.in-Err.ensures.kept)

pub returns-in-Err-clause-front : goal.returns-in-Err-clause-front
returns-in-Err-clause-front g c =
    writes_front _ _ _ _ _ _ _ _ _ _ _ (c.if-not-is_play.ensures.0 refl) c.new-in-Err.ensures _ _ _ _ c.in-Err.field-0.why c.in-Err.ensures.why c.refused_status.ensures
