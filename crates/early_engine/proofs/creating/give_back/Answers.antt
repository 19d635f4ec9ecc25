use Rattle.std.proofs.Common.{◌∙◌, inl, inr, IsTrue, ap, sym, refl, arith}
use Rattle.std.specs.FinMap as finite
use Rattle.std.specs.FinSet as finset
use Rattle.early_engine.proofs.NameLemmas.{removed_key, removed_out, key-insert_other, rose_of, rose_later, later_rose, removed_well, removed_others}
use Rattle.early_engine.proofs.creating.give_back.Goals as goal
use Rattle.early_engine.proofs.creating.give_back.Goals.{else-put-via-then-put+else-removed, else-put-via-else-put}
use Rattle.plain_model.specs.declared.reply.TheConstants.Message.{FILE_FAILED, NO_MEMORY}

pub remove-requires : goal.remove-requires
remove-requires g c = ap (λ o. finset.contains o c.args.path.now) c.put_pages.ensures.out ∙ removed_out (g.V.Volume.out c.args.volume.now) c.args.path.now

pub returns-then-removed : goal.returns-then-removed
returns-then-removed g c =
    let old = c.args.volume.now in
    let mid = c.put_pages.new.self in
    let told_mid : IsTrue (g.V.Volume.tells old) → IsTrue (g.V.Volume.tells mid) = λ t. c.put_pages.ensures.tells ∙ t in
    record {
      code = NO_MEMORY;
      is = c.refused.ensures;
      either = inl refl;
      told = c.remove.ensures.tells ∙ c.put_pages.ensures.tells;
      freed = λ told e. ap (λ m. finite.contains_key m c.args.path.now) (removed_well c.remove.result c.args.path.now (g.V.Volume.folder mid) (g.V.Volume.folder c.remove.new.self) (sym c.is_ok-removed.ensures.value ∙ c.if-removed.true) (c.remove.ensures.removed (told_mid told)))
          ∙ removed_key (g.V.Volume.folder mid) c.args.path.now;
      places = λ told q f. removed_others c.remove.result c.args.path.now (g.V.Volume.folder mid) (g.V.Volume.folder c.remove.new.self) (c.remove.ensures.removed (told_mid told)) q f
          ∙ ap (λ m. finite.contains_key m q) (c.put_pages.ensures.put told).is ∙ key-insert_other (g.V.Volume.folder old) c.args.path.now _ q f;
      out = c.remove.ensures.out ∙ c.put_pages.ensures.out;
      failures = let a = c.put_pages.ensures.cause.later in let b = c.remove.ensures.cause.later in omega (arith, a, b);
      file_failures = let a = c.put_pages.ensures.file_failures in let b = c.remove.ensures.file_failures in omega (arith, a, b);
    }

pub returns-else-put : goal.returns-else-put
returns-else-put g c =
    let old = c.args.volume.now in
    let mid = c.put_pages.new.self in
    let new = c.remove.new.self in
    let told_mid : IsTrue (g.V.Volume.tells old) → IsTrue (g.V.Volume.tells mid) = λ t. c.put_pages.ensures.tells ∙ t in
    record {
      code = FILE_FAILED;
      is = c.refused-else-put.ensures;
      either = inr (
        refl,
        elim c.else-put.branch [
          | else-put-via-then-put+else-removed w ↦ later_rose (g.V.Volume.failures old) (g.V.Volume.failures mid) (g.V.Volume.failures new) c.put_pages.ensures.cause.later (rose_of c.remove.result _ (sym c.is_ok-removed.ensures.value ∙ w.if-removed.false) c.remove.ensures.cause.failed)
          | else-put-via-else-put w ↦ rose_later (g.V.Volume.failures old) (g.V.Volume.failures mid) (g.V.Volume.failures new) (rose_of c.put_pages.result _ (sym c.is_ok-put.ensures.value ∙ w.if-put.false) c.put_pages.ensures.cause.failed) c.remove.ensures.cause.later
        ],
      );
      told = c.remove.ensures.tells ∙ c.put_pages.ensures.tells;
      freed = λ told e. absurd (omega (arith, e));
      places = λ told q f. removed_others c.remove.result c.args.path.now (g.V.Volume.folder mid) (g.V.Volume.folder new) (c.remove.ensures.removed (told_mid told)) q f
          ∙ ap (λ m. finite.contains_key m q) (c.put_pages.ensures.put told).is ∙ key-insert_other (g.V.Volume.folder old) c.args.path.now _ q f;
      out = c.remove.ensures.out ∙ c.put_pages.ensures.out;
      failures = let a = c.put_pages.ensures.cause.later in let b = c.remove.ensures.cause.later in omega (arith, a, b);
      file_failures = let a = c.put_pages.ensures.file_failures in let b = c.remove.ensures.file_failures in omega (arith, a, b);
    }
