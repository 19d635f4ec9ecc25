use Rattle.std.proofs.Common.{◌∙◌, ◌+◌, ◌∷◌, [], ℕ, List, sym, arith, subst}
use Rattle.plain_model.specs.declared.reply.Reply.{Reply}
use Rattle.plain_model.specs.declared.stmt.Stmt.TheVariants.{CreateSnap}
use Rattle.plain_model.specs.Next.{sparse_names}
use Rattle.early_engine.specs.Disks.{disk_of}
use Rattle.early_engine.specs.Ready.{Allowed}
use Rattle.early_engine.specs.Safe.{state}
use Rattle.early_engine.specs.Creating.{Refuses}
use Rattle.early_engine.proofs.CutLemmas.{reason_allowed, cuts_here}
use Rattle.early_engine.proofs.NameLemmas.{one_path, refuses_none, refuses_before, reason_before, makes_before, on_ok, if_err, err_as, all_ok}
use Rattle.early_engine.proofs.creating.prepare.Goals as goal

pub returns-in_err-check_names-clause-refused : goal.returns-in_err-check_names-clause-refused
returns-in_err-check_names-clause-refused g c =
    let disk = disk_of g.V.Volume.tells g.V.Volume.folder g.V.Volume.out g.V.Volume.failures g.V.Volume.file_failures in
    err_as c.from_residual.result _ _ c.from_residual.ensures.1 (λ y is e i asked told.
    subst (λ (r : Reply). Allowed (state e) (i + 1) (CreateSnap c.args.snap.now c.args.files.now c.args.of.now) r) (sym is) (c.in_err-check_names.ensures.refused (disk c.args.volume.now) e i asked))

pub returns-in_err-check_names-clause-refuses : goal.returns-in_err-check_names-clause-refuses
returns-in_err-check_names-clause-refuses g c =
    let disk = disk_of g.V.Volume.tells g.V.Volume.folder g.V.Volume.out g.V.Volume.failures g.V.Volume.file_failures in
    err_as c.from_residual.result _ _ c.from_residual.ensures.1 (λ y is.
    subst (λ (r : Reply). Refuses (sparse_names c.args.files.now) (disk c.args.volume.now) (disk c.args.volume.now) r) (sym is)
    (refuses_none (sparse_names c.args.files.now) (disk c.args.volume.now) (disk c.args.volume.now) _ (c.in_err-check_names.ensures.plain (disk c.args.volume.now))))

pub returns-in_err-check_room-clause-refused : goal.returns-in_err-check_room-clause-refused
returns-in_err-check_room-clause-refused g c =
    let disk = disk_of g.V.Volume.tells g.V.Volume.folder g.V.Volume.out g.V.Volume.failures g.V.Volume.file_failures in
    let one = one_path c.args.files.now c.at.result.now c.in_ok-check_names.ensures.one (c.at.ensures.value c.at.result.now) in
    err_as c.from_residual-in_err-check_room.result _ _ c.from_residual-in_err-check_room.ensures.1 (λ y is e i asked told.
    subst (λ (r : Reply). Allowed (state e) (i + 1) (CreateSnap c.args.snap.now c.args.files.now c.args.of.now) r) (sym is)
    (reason_allowed c.args.source.now c.args.file.now (disk c.args.volume.now) c.args.pages.now c.args.snap.now c.args.files.now c.args.of.now e i asked (c.in_ok-check_names.ensures.passes (disk c.args.volume.now) e i asked) c.at.result.now.path one told
    (disk c.check_room.new.volume) _ c.in_err-check_room.ensures.reason))

pub returns-clause-refused : goal.returns-clause-refused
returns-clause-refused g c =
    let disk = disk_of g.V.Volume.tells g.V.Volume.folder g.V.Volume.out g.V.Volume.failures g.V.Volume.file_failures in
    let one = one_path c.args.files.now c.at.result.now c.in_ok-check_names.ensures.one (c.at.ensures.value c.at.result.now) in
    let r = c.check_room.ensures in
    if_err c.make_file.result _ _ (c.make_file.ensures.reason c.args.pages.now) (λ y reason e i asked told.
    reason_allowed c.args.source.now c.args.file.now (disk c.args.volume.now) c.args.pages.now c.args.snap.now c.args.files.now c.args.of.now e i asked (c.in_ok-check_names.ensures.passes (disk c.args.volume.now) e i asked) c.at.result.now.path one told
    (disk c.make_file.new.volume) y (reason_before (disk c.args.volume.now) (disk c.check_room.new.volume) r.tells r.folder r.out r.failures (let f = r.file_failures in omega (arith, f)) (disk c.make_file.new.volume) c.args.pages.now c.at.result.now.path y reason))

pub returns-clause-refuses : goal.returns-clause-refuses
returns-clause-refuses g c =
    let disk = disk_of g.V.Volume.tells g.V.Volume.folder g.V.Volume.out g.V.Volume.failures g.V.Volume.file_failures in
    let one = one_path c.args.files.now c.at.result.now c.in_ok-check_names.ensures.one (c.at.ensures.value c.at.result.now) in
    let r = c.check_room.ensures in
    if_err c.make_file.result _ _ c.make_file.ensures.refuses (λ y refuses.
    subst (λ (ns : List (List ℕ)). Refuses ns (disk c.args.volume.now) (disk c.make_file.new.volume) y) (sym one)
    (refuses_before (disk c.args.volume.now) (disk c.check_room.new.volume) r.tells r.folder r.out r.failures (let f = r.file_failures in omega (arith, f)) (c.at.result.now.path ∷ []) (disk c.make_file.new.volume) y refuses))

pub returns-clause-cuts : goal.returns-clause-cuts
returns-clause-cuts g c =
    let disk = disk_of g.V.Volume.tells g.V.Volume.folder g.V.Volume.out g.V.Volume.failures g.V.Volume.file_failures in
    let one = one_path c.args.files.now c.at.result.now c.in_ok-check_names.ensures.one (c.at.ensures.value c.at.result.now) in
    on_ok c.make_file.result _ (λ e i asked told.
    cuts_here c.args.source.now c.args.file.now (disk c.args.volume.now) c.args.pages.now c.args.snap.now c.args.files.now c.args.of.now e i asked (c.in_ok-check_names.ensures.passes (disk c.args.volume.now) e i asked) c.at.result.now.path one told
    (c.in_ok-check_room.ensures.fresh told) c.in_ok-check_room.ensures.place)

pub returns-clause-made : goal.returns-clause-made
returns-clause-made g c =
    let disk = disk_of g.V.Volume.tells g.V.Volume.folder g.V.Volume.out g.V.Volume.failures g.V.Volume.file_failures in
    let one = one_path c.args.files.now c.at.result.now c.in_ok-check_names.ensures.one (c.at.ensures.value c.at.result.now) in
    let r = c.check_room.ensures in
    all_ok c.make_file.result _ _ _ _ c.make_file.ensures.makes c.make_file.ensures.names c.make_file.ensures.told (λ new makes names told. record {
      path = c.at.result.now.path;
      named = one;
      listed = names;
      unused = c.in_ok-check_room.ensures.unused;
      tells = λ t. told (r.tells ∙ t);
      makes = makes_before (disk c.args.volume.now) (disk c.check_room.new.volume) r.tells r.folder r.out r.failures (let f = r.file_failures in omega (arith, f)) c.at.result.now.path (disk c.make_file.new.volume) makes;
    })
