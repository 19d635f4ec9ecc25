use Rattle.std.proofs.Common.{ℕ, List, ◌++◌, ◌∙◌, sym, ap, refl, false}
use Rattle.plain_model.specs.State.{master}
use Rattle.plain_model.specs.Order.{closers, order}
use Rattle.early_engine.specs.declared.seat.Seat.{Seat}
use Rattle.early_engine.specs.Entering.{Kept}
use Rattle.early_engine.specs.Schedules.{owed}
use Rattle.early_engine.proofs.OrderLemmas.{owed_fresh}
use Rattle.early_engine.specs.Opened.{names_of, new_source}
use Rattle.early_engine.specs.Disks.{disk_of}
use Rattle.early_engine.proofs.FreshLemmas.{safe_fresh}
use Rattle.early_engine.proofs.engine.Engine.fresh.Goals as goal

pub invariant_of-result : goal.invariant_of-result
invariant_of-result g c = safe_fresh (record {
  opening = new_source c.args.name.now c.args.file.now (names_of (g.V.Volume.folder c.of.result.value));
  scripts = c.args.scripts;
  disk = disk_of g.V.Volume.tells g.V.Volume.folder g.V.Volume.out g.V.Volume.failures g.V.Volume.file_failures c.args.volume;
  shown = c.in-Ok.field-0.pages;
  seats = c.in-Ok.field-0.seats.items;
  kept = c.in-Ok.field-0.ledger;
}) c.args.name.now c.args.file.now (g.V.Volume.folder c.of.result.value) refl c.make_parts.ensures.kept c.args.pages c.requires.few
    c.in-Ok.ensures.images c.in-Ok.ensures.counts c.in-Ok.ensures.catalog c.in-Ok.ensures.seats
    (ap (λ k. k.events) c.in-Ok.ensures.ledger) (ap (λ k. k.room) c.in-Ok.ensures.ledger)
    (ap g.V.Volume.folder (sym c.of.ensures)) c.requires.out

pub returns-clause-order : goal.returns-clause-order
returns-clause-order g c = λ picks.
    ap (λ (k : Kept). closers k.events ++ order (owed c.args.scripts c.in-Ok.field-0.seats.items) picks) c.in-Ok.ensures.ledger
    ∙ ap (λ (seats : List Seat). order (owed c.args.scripts seats) picks) c.in-Ok.ensures.seats
    ∙ ap (λ (left : List ℕ). order left picks) (owed_fresh c.args.scripts (record { current = master; said = 0; gone = false }) refl refl)
