use Rattle.std.proofs.Common.{◌∙◌, List, [], ℕ, sym, ap, subst}
use Rattle.plain_model.specs.declared.stmt.Stmt.TheVariants.{Broken}
use Rattle.plain_model.specs.declared.reply.Reply.TheVariants.{Msg}
use Rattle.plain_model.specs.declared.reply.TheConstants.Message.{SYNTAX}
use Rattle.plain_model.specs.Messages.{at_place}
use Rattle.early_engine.specs.declared.answer.Answer.TheVariants.{AtOnce}
use Rattle.early_pages.specs.Shown.{catalog}
use Rattle.early_engine.specs.Databases.{Means}
use Rattle.early_engine.proofs.Choices.{unbuilt, broken, same_decides, other}
use Rattle.early_engine.proofs.choosing.choose.Goals as goal

pub returns-in-UseDb : goal.returns-in-UseDb
returns-in-UseDb g c = λ opening seen setting named. rw c.in-UseDb.is (c.enter.ensures opening c.args.current.now seen setting named)

pub returns-in-CreateTable : goal.returns-in-CreateTable
returns-in-CreateTable g c = λ opening seen setting named.
    let means = subst (λ (s : List ℕ). Means s (catalog c.args.pages.now) c.args.current.now c.find_database-db.result) (sym named) c.find_database-db.ensures.means in
    rw c.in-CreateTable.is (c.create.ensures opening c.args.current.now seen setting means)

pub returns-in-Insert : goal.returns-in-Insert
returns-in-Insert g c = λ opening seen setting named.
    let means = subst (λ (s : List ℕ). Means s (catalog c.args.pages.now) c.args.current.now c.find_database-db.result) (sym named) c.find_database-db.ensures.means in
    c.change.ensures opening c.args.current.now seen setting means

pub returns-in-Update : goal.returns-in-Update
returns-in-Update g c = λ opening seen setting named.
    let means = subst (λ (s : List ℕ). Means s (catalog c.args.pages.now) c.args.current.now c.find_database-db.result) (sym named) c.find_database-db.ensures.means in
    c.change-in-Update.ensures opening c.args.current.now seen setting means

pub returns-in-Delete : goal.returns-in-Delete
returns-in-Delete g c = λ opening seen setting named.
    let means = subst (λ (s : List ℕ). Means s (catalog c.args.pages.now) c.args.current.now c.find_database-db.result) (sym named) c.find_database-db.ensures.means in
    c.change-in-Delete.ensures opening c.args.current.now seen setting means

pub returns-in-Select : goal.returns-in-Select
returns-in-Select g c = λ opening seen setting named.
    let means = subst (λ (s : List ℕ). Means s (catalog c.args.pages.now) c.args.current.now c.find_database-db.result) (sym named) c.find_database-db.ensures.means in
    c.select.ensures opening c.args.current.now seen setting means

pub returns-in-Broken : goal.returns-in-Broken
returns-in-Broken g c = λ opening seen setting named.
    let means = subst (λ (s : List ℕ). Means s (catalog c.args.pages.now) c.args.current.now c.find_database-db.result) (sym named) c.find_database-db.ensures.means in
    let is = c.only.ensures ∙ ap (λ r. record { answer = AtOnce r; edits = [] }) (c.refused_at.ensures ∙ ap (λ n. Msg (at_place SYNTAX n)) c.from.ensures) in
    rw c.in-Broken.is (same_decides c.args.pages.now c.find_database-db.result (Broken c.in-Broken.at) _ _ is (broken c.args.pages.now c.find_database-db.result c.in-Broken.at) opening c.args.current.now seen setting means)

pub returns-in_default : goal.returns-in_default
returns-in_default g c = λ opening seen setting named.
    let means = subst (λ (s : List ℕ). Means s (catalog c.args.pages.now) c.args.current.now c.find_database-db.result) (sym named) c.find_database-db.ensures.means in
    let d = c.in_default in
    let o = other c.args.stmt.now d.not-UseDb d.not-CreateTable d.not-Insert d.not-Select d.not-Update d.not-Delete d.not-CreateSnap d.not-Broken in
    same_decides c.args.pages.now c.find_database-db.result c.args.stmt.now _ _ c.at_once.ensures (unbuilt c.args.pages.now c.find_database-db.result c.args.stmt.now o.0 o.1) opening c.args.current.now seen setting means
