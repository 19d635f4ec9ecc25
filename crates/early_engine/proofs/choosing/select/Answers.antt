use Rattle.std.proofs.Common.{sym, ap, subst, ◌∙◌}
use Rattle.plain_model.specs.Free.{is_of_tables}
use Rattle.plain_model.specs.Next.{is_built}
use Rattle.early_pages.specs.Shown.{catalog}
use Rattle.early_engine.specs.declared.database.Database.{Database}
use Rattle.early_engine.specs.Databases.{Means, is_home, is_shot, is_lost}
use Rattle.early_engine.specs.Deciding.{Decides}
use Rattle.early_engine.proofs.Choices.{see_lost, see_nowhere, or_memory, same_decides, simple_select}
use Rattle.early_engine.proofs.SelectLemmas.{as_select}
use Rattle.early_engine.proofs.choosing.select.Goals as goal

pub returns-then-is_lost : goal.returns-then-is_lost
returns-then-is_lost g c =
    let h = c.requires.select in
    let lost = see_lost c.args.pages.now c.args.db h.select (sym c.is_lost.ensures ∙ c.if-is_lost.true) in
    same_decides c.args.pages.now c.args.db c.args.stmt.now _ _ c.at_once.ensures (as_select (λ stmt name. Decides c.args.pages.now c.args.db stmt _) c.args.stmt.now c.args.name.now h lost)

pub returns-in-Source : goal.returns-in-Source
returns-in-Source g c =
    let h = c.requires.select in
    or_memory c.args.pages.now c.args.db c.args.stmt.now (ap is_of_tables h.is) (simple_select c.args.stmt.now c.args.name.now h) (ap is_home c.in-Source.is) c.select_in_source.result c.or_no_memory.result c.select_in_source.ensures c.or_no_memory.ensures

pub returns-in-Snap : goal.returns-in-Snap
returns-in-Snap g c = λ opening current seen setting means. record {
  select = c.requires.select.select;
  is = c.requires.select.is;
  table = c.requires.select.table;
  built = ap is_built c.requires.select.is;
  means = subst (λ (d : Database). Means opening.source (catalog c.args.pages.now) current d) c.in-Snap.is means;
  sound = ap (is_lost (catalog c.args.pages.now)) (sym c.in-Snap.is) ∙ sym c.is_lost.ensures ∙ c.if-is_lost.false;
}

pub returns-in-Master : goal.returns-in-Master
returns-in-Master g c =
    let h = c.requires.select in
    let nowhere = see_nowhere c.args.pages.now c.args.db h.select (ap is_home c.in-Master.is) (ap is_shot c.in-Master.is) in
    same_decides c.args.pages.now c.args.db c.args.stmt.now _ _ c.at_once-in-Master.ensures (as_select (λ stmt name. Decides c.args.pages.now c.args.db stmt _) c.args.stmt.now c.args.name.now h nowhere)

pub returns-in-Absent : goal.returns-in-Absent
returns-in-Absent g c =
    let h = c.requires.select in
    let nowhere = see_nowhere c.args.pages.now c.args.db h.select (ap is_home c.in-Absent.is) (ap is_shot c.in-Absent.is) in
    same_decides c.args.pages.now c.args.db c.args.stmt.now _ _ c.at_once-in-Absent.ensures (as_select (λ stmt name. Decides c.args.pages.now c.args.db stmt _) c.args.stmt.now c.args.name.now h nowhere)
