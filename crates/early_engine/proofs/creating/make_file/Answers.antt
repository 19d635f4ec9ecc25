use Rattle.std.proofs.Common.{◌∙◌, ap, arith, Err}
use Rattle.std.specs.FinMap as finite
use Rattle.std.specs.FinSet as finset
use Rattle.page_dev.specs.Volume.{Out}
use Rattle.page_dev.proofs.OutLemmas.{taken_out}
use Rattle.early_engine.specs.Disks.{disk_of}
use Rattle.early_engine.proofs.NameLemmas.{key-insert, in-insert, refused_back, refused_failed, removed_others}
use Rattle.early_engine.proofs.creating.make_file.Goals as goal

pub returns-in-Ok-only_file-clause-makes : goal.returns-in-Ok-only_file-clause-makes
returns-in-Ok-only_file-clause-makes g c =
    let old = c.args.volume.now in
    record {
      told = c.create_pages.ensures.tells;
      fresh = c.requires.fresh;
      places = λ told q. ap (λ m. finite.contains_key m q) (c.in-Ok-create_pages.ensures.folder told).1 ∙ key-insert (g.V.Volume.folder old) c.args.path.now Out q;
      out = λ q. ap (λ o. finset.contains o q) c.in-Ok-create_pages.ensures.out ∙ in-insert (g.V.Volume.out old) c.args.path.now q;
      failures = c.create_pages.ensures.cause.later;
      file_failures = let a = c.create_pages.ensures.file_failures in omega (arith, a);
    }

pub give_back-requires : goal.give_back-requires
give_back-requires g c = record { out = ap (λ o. finset.contains o c.args.path.now) c.in-Ok-create_pages.ensures.out ∙ taken_out (g.V.Volume.out c.args.volume.now) c.args.path.now }

pub returns-in-Ok-create_pages-clause-refuses : goal.returns-in-Ok-create_pages-clause-refuses
returns-in-Ok-create_pages-clause-refuses g c =
    let disk = disk_of g.V.Volume.tells g.V.Volume.folder g.V.Volume.out g.V.Volume.failures g.V.Volume.file_failures in
    refused_back c.args.path.now (disk c.args.volume.now) (disk c.create_pages.new.self) (disk c.give_back.new.volume) c.give_back.result c.create_pages.ensures.tells c.requires.fresh (λ told. (c.in-Ok-create_pages.ensures.folder told).1)
    c.in-Ok-create_pages.ensures.out c.requires.unused c.create_pages.ensures.cause.later (let a = c.create_pages.ensures.file_failures in omega (arith, a)) c.give_back.ensures

pub returns-in-Err-Failed-clause-refuses : goal.returns-in-Err-Failed-clause-refuses
returns-in-Err-Failed-clause-refuses g c =
    let disk = disk_of g.V.Volume.tells g.V.Volume.folder g.V.Volume.out g.V.Volume.failures g.V.Volume.file_failures in
    refused_failed c.args.path.now (disk c.args.volume.now) (disk c.create_pages.new.self) (disk c.remove.new.self) c.refused-in-Err-Failed.result c.refused-in-Err-Failed.ensures c.create_pages.ensures.tells c.remove.ensures.tells
    (λ told. rw c.in-Err-Failed.field-0-is at (c.in-Err-Failed.ensures.folder told))
    (λ told q f. removed_others c.remove.result c.args.path.now (g.V.Volume.folder c.create_pages.new.self) (g.V.Volume.folder c.remove.new.self) (c.remove.ensures.removed told) q f)
    c.in-Err-Failed.ensures.out c.remove.ensures.out (c.in-Err-Failed.ensures.cause.failed (ap Err c.in-Err-Failed.field-0-is)) c.create_pages.ensures.cause.later c.remove.ensures.cause.later
    (let a = c.create_pages.ensures.file_failures in omega (arith, a)) (let a = c.remove.ensures.file_failures in omega (arith, a))
