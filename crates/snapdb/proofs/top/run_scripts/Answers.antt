use Rattle.std.proofs.Common.{◌≡◌, ◌++◌, ◌∙◌, List, ap, sym, subst, refl, arith}
use Rattle.std.specs.List.{list_any}
use Rattle.plain_model.specs.declared.event.Event.{Event}
use Rattle.early_engine.specs.Causes.{is_failure}
use Rattle.early_engine.specs.Safe.{Disk}
use Rattle.early_engine.specs.Schedules.{Plays}
use Rattle.plain_model.specs.declared.pick.Pick.{Pick}
use Rattle.early_engine.proofs.CallerLemmas.{goes_further}
use Rattle.plain_model.specs.Order.{closers, order, steps}
use Rattle.plain_model.proofs.OrderLemmas.{orders_known}
use Rattle.snapdb.proofs.top.run_scripts.Goals as goal

pub returns-in-Ok-clause-failed : goal.returns-in-Ok-clause-failed
returns-in-Ok-clause-failed g c = λ h.
    let goes = goes_further c.in-Ok.engine c.run.new.self c.finish.new.self c.run.ensures.goes c.finish.ensures.goes in
    let events : c.finish.new.self.kept.events ≡ goes.came = goes.grows ∙ ap (λ (es : List Event). es ++ goes.came) c.in-Ok.ensures.book in
    let rose = goes.blame (sym (ap (list_any is_failure) (c.close.ensures.book ∙ events)) ∙ h) in
    let first = ap (λ (d : Disk). d.failures) c.in-Ok.ensures.disk in
    let last = c.close.ensures.failures in
    omega (arith, rose, first, last)

pub returns-in-Ok-clause-known : goal.returns-in-Ok-clause-known
returns-in-Ok-clause-known g c =
    orders_known c.args.work.scripts c.args.work.picks c.close.result.book (ap closers c.close.ensures.book ∙ c.finish.ensures.order ∙ c.run.ensures.order ∙ c.in-Ok.ensures.order c.as_slice.result.now ∙ ap (order (steps c.args.work.scripts)) c.as_slice.ensures)

pub returns-in-Ok-clause-run : goal.returns-in-Ok-clause-run
returns-in-Ok-clause-run g c = record {
  opened = c.in-Ok.engine;
  played = c.run.new.self;
  last = c.finish.new.self;
  begins = rw (c.in-Ok.ensures.opening, c.source.ensures, c.data_file.ensures) refl;
  same = c.in-Ok.ensures.scripts;
  disk = c.in-Ok.ensures.disk;
  size = c.in-Ok.ensures.pages;
  empty = c.in-Ok.ensures.book;
  plays = subst (λ (picks : List Pick). Plays picks c.in-Ok.engine c.run.new.self) c.as_slice.ensures c.run.ensures.plays;
  rounds = c.finish.ensures.rounds;
  left = c.finish.ensures.left;
  tells = c.close.ensures.book;
  ends = c.close.ensures.ends;
  fault = c.close.ensures.fault;
  places = c.close.ensures.folder;
  lies = c.close.ensures.lies;
}
