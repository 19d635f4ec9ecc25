use Rattle.std.proofs.Common.{◌∙◌, List, ℕ, sym, subst}
use Rattle.plain_model.specs.declared.stmt.Stmt.TheVariants.{UseDb}
use Rattle.early_pages.specs.Shown.{catalog}
use Rattle.early_engine.specs.Databases.{Means}
use Rattle.early_engine.proofs.Choices.{enter_absent, enter_lost, enters, same_decision}
use Rattle.early_engine.proofs.choosing.enter.Goals as goal

pub returns-then-not-is_there : goal.returns-then-not-is_there
returns-then-not-is_there g c = λ opening current seen setting named.
    let means = subst (λ (s : List ℕ). Means s (catalog c.args.pages.now) c.args.name.now c.find_database-db.result) (sym named) c.find_database-db.ensures.means in
    same_decision opening current c.args.pages.now seen (UseDb c.args.name.now) _ _ c.at_once.ensures
    (enter_absent c.args.pages.now opening current seen setting c.args.name.now c.find_database-db.result means (sym c.is_there.ensures ∙ c.if-not-is_there.true))

pub returns-then-is_lost : goal.returns-then-is_lost
returns-then-is_lost g c = λ opening current seen setting named.
    let means = subst (λ (s : List ℕ). Means s (catalog c.args.pages.now) c.args.name.now c.find_database-db.result) (sym named) c.find_database-db.ensures.means in
    same_decision opening current c.args.pages.now seen (UseDb c.args.name.now) _ _ c.at_once-then-is_lost.ensures
    (enter_lost c.args.pages.now opening current seen setting c.args.name.now c.find_database-db.result means (sym c.is_there.ensures ∙ c.if-not-is_there.false) (sym c.is_lost.ensures ∙ c.if-is_lost.true))

pub returns : goal.returns
returns g c = λ opening current seen setting named.
    let means = subst (λ (s : List ℕ). Means s (catalog c.args.pages.now) c.args.name.now c.find_database-db.result) (sym named) c.find_database-db.ensures.means in
    same_decision opening current c.args.pages.now seen (UseDb c.args.name.now) _ _ c.only.ensures
    (enters c.args.pages.now opening current seen setting c.args.name.now c.find_database-db.result means (sym c.is_there.ensures ∙ c.if-not-is_there.false) (sym c.is_lost.ensures ∙ c.if-is_lost.false))
