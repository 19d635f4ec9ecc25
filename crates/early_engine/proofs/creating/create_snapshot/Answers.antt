use Rattle.std.proofs.Common.{◌∷◌, [], ap, inl, inr, refl, arith}
use Rattle.plain_model.specs.declared.stmt.Stmt.TheVariants.{CreateSnap}
use Rattle.early_engine.specs.Creating.{IsAsked}
use Rattle.plain_model.specs.declared.event.Event.TheVariants.{CutAt}
use Rattle.plain_model.specs.declared.reply.Reply.TheVariants.{Ok as Fine}
use Rattle.early_engine.specs.Entering.{Kept}
use Rattle.early_engine.specs.Stepping.{number}
use Rattle.early_engine.specs.Disks.{disk_of}
use Rattle.early_engine.proofs.CutSafe.{cut_safe}
use Rattle.early_engine.proofs.Cutting.{refused_volume, refused_room}
use Rattle.early_engine.proofs.Cutting.{refused_safe}
use Rattle.early_engine.proofs.creating.create_snapshot.Goals as goal

pub returns-in-Ok-clause-safe : goal.returns-in-Ok-clause-safe
returns-in-Ok-clause-safe g c = λ e i safe there here says disk_is shown_is kept_is who_is number_is source_is files_are.
    let disk = disk_of g.V.Volume.tells g.V.Volume.folder g.V.Volume.out g.V.Volume.failures g.V.Volume.file_failures in
    let asked : IsAsked c.args.source.now c.args.file.now (disk c.args.volume.now) c.args.pages.now (CreateSnap c.args.snap.now c.args.files.now c.args.of.now) e i = record { safe = safe; there = there; here = here; says = says; disk_is = disk_is; shown_is = shown_is; source_is = source_is; files_are = files_are } in
    let p = c.in-Ok.ensures in
    cut_safe c.args.source.now c.args.file.now (disk c.args.volume.now) c.args.pages.now c.args.snap.now c.args.files.now c.args.of.now e i asked
    (disk c.prepare.new.volume) c.cut.new.pages c.args.ledger.now c.cut.new.ledger c.args.who.0 c.args.number c.in-Ok.new.names c.in-Ok.new.set kept_is who_is number_is
    (record { free = p.new; only = c.cut.ensures.only; views = c.cut.ensures.views; is = p.made })
    c.cut.ensures.events c.cut.ensures.left (λ told. p.cuts e i asked told)

pub returns-in-Err-clause-safe : goal.returns-in-Err-clause-safe
returns-in-Err-clause-safe g c = λ e i safe there here says disk_is shown_is kept_is who_is number_is source_is files_are.
    let disk = disk_of g.V.Volume.tells g.V.Volume.folder g.V.Volume.out g.V.Volume.failures g.V.Volume.file_failures in
    let asked : IsAsked c.args.source.now c.args.file.now (disk c.args.volume.now) c.args.pages.now (CreateSnap c.args.snap.now c.args.files.now c.args.of.now) e i = record { safe = safe; there = there; here = here; says = says; disk_is = disk_is; shown_is = shown_is; source_is = source_is; files_are = files_are } in
    let room = c.requires.room in
    refused_safe c.args.source.now c.args.file.now (disk c.args.volume.now) c.args.pages.now c.args.snap.now c.args.files.now c.args.of.now e i asked
    (disk c.prepare.new.volume) c.args.ledger.now c.refuse.new.ledger c.args.who c.args.number c.in-Err.reply kept_is who_is number_is
    c.in-Err.ensures.refuses c.refuse.ensures (omega (arith, room)) (λ told. c.in-Err.ensures.refused e i asked told)

pub returns-in-Ok-clause-adds : goal.returns-in-Ok-clause-adds
returns-in-Ok-clause-adds g c = record {
  reply = Fine;
  amid = CutAt (number c.args.who.0) c.args.snap.now ∷ [];
  grows = c.cut.ensures.events;
  cuts = inr (c.args.snap.now, refl);
  room = tt;
  volume = tt;
}

pub returns-in-Err-clause-adds : goal.returns-in-Err-clause-adds
returns-in-Err-clause-adds g c = record {
  reply = c.in-Err.reply;
  amid = [];
  grows = ap (λ (k : Kept). k.events) c.refuse.ensures;
  cuts = inl refl;
  room = refused_room _ _ _ _ c.in-Err.ensures.refuses;
  volume = refused_volume _ _ _ _ c.in-Err.ensures.refuses;
}
