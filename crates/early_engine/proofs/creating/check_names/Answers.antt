use Rattle.std.proofs.Common.{◌+◌, sym, ◌∙◌, subst}
use Rattle.plain_model.specs.declared.reply.Reply.{Reply}
use Rattle.plain_model.specs.declared.stmt.Stmt.TheVariants.{CreateSnap}
use Rattle.early_engine.specs.Ready.{Allowed}
use Rattle.early_engine.specs.Safe.{state}
use Rattle.early_engine.proofs.CutLemmas.{refused_taken, refused_absent, refused_elsewhere, refused_list, passing}
use Rattle.early_engine.proofs.creating.check_names.Goals as goal

pub returns-then-is_there-clause-refused : goal.returns-then-is_there-clause-refused
returns-then-is_there-clause-refused g c = λ disk e i asked.
    subst (λ (r : Reply). Allowed (state e) (i + 1) (CreateSnap c.args.snap.now c.args.files.now c.args.of.now) r) (sym c.refused.ensures)
    (refused_taken c.args.source.now c.args.file.now disk c.args.pages.now c.args.snap.now c.args.files.now c.args.of.now e i asked c.cat.ensures.few c.find_database.result c.find_database.ensures.means (sym c.is_there.ensures ∙ c.if-is_there.true))

pub returns-then-not-is_there-clause-refused : goal.returns-then-not-is_there-clause-refused
returns-then-not-is_there-clause-refused g c = λ disk e i asked.
    subst (λ (r : Reply). Allowed (state e) (i + 1) (CreateSnap c.args.snap.now c.args.files.now c.args.of.now) r) (sym c.refused-then-not-is_there.ensures)
    (refused_absent c.args.source.now c.args.file.now disk c.args.pages.now c.args.snap.now c.args.files.now c.args.of.now e i asked c.cat.ensures.few c.find_database.result c.find_database.ensures.means
    c.find_database-from.result c.find_database-from.ensures.means (sym c.is_there.ensures ∙ c.if-is_there.false) (sym c.is_there-2.ensures ∙ c.if-not-is_there.true))

pub returns-then-not-is_home-clause-refused : goal.returns-then-not-is_home-clause-refused
returns-then-not-is_home-clause-refused g c = λ disk e i asked.
    subst (λ (r : Reply). Allowed (state e) (i + 1) (CreateSnap c.args.snap.now c.args.files.now c.args.of.now) r) (sym c.refused-then-not-is_home.ensures)
    (refused_elsewhere c.args.source.now c.args.file.now disk c.args.pages.now c.args.snap.now c.args.files.now c.args.of.now e i asked c.cat.ensures.few c.find_database.result c.find_database.ensures.means
    c.find_database-from.result c.find_database-from.ensures.means (sym c.is_there.ensures ∙ c.if-is_there.false) (sym c.is_there-2.ensures ∙ c.if-not-is_there.false) (sym c.is_home.ensures ∙ c.if-not-is_home.true))

pub returns-then-not-is_the_file-clause-refused : goal.returns-then-not-is_the_file-clause-refused
returns-then-not-is_the_file-clause-refused g c = λ disk e i asked.
    subst (λ (r : Reply). Allowed (state e) (i + 1) (CreateSnap c.args.snap.now c.args.files.now c.args.of.now) r) (sym c.refused-then-not-is_the_file.ensures)
    (refused_list c.args.source.now c.args.file.now disk c.args.pages.now c.args.snap.now c.args.files.now c.args.of.now e i asked c.cat.ensures.few c.find_database.result c.find_database.ensures.means
    c.find_database-from.result c.find_database-from.ensures.means (sym c.is_there.ensures ∙ c.if-is_there.false) (sym c.is_there-2.ensures ∙ c.if-not-is_there.false) (sym c.is_home.ensures ∙ c.if-not-is_home.false)
    (sym c.is_the_file.ensures ∙ c.if-not-is_the_file.true))

pub returns-clause-passes : goal.returns-clause-passes
returns-clause-passes g c = λ disk e i asked.
    passing c.args.source.now c.args.file.now disk c.args.pages.now c.args.snap.now c.args.files.now c.args.of.now e i asked c.cat.ensures.few c.find_database.result c.find_database.ensures.means
    c.find_database-from.result c.find_database-from.ensures.means (sym c.is_there.ensures ∙ c.if-is_there.false) (sym c.is_there-2.ensures ∙ c.if-not-is_there.false) (sym c.is_home.ensures ∙ c.if-not-is_home.false)
    (sym c.is_the_file.ensures ∙ c.if-not-is_the_file.false)
