use Rattle.std.proofs.Common.{◌∙◌, List, length, sym, ap, refl}
use Rattle.std.specs.Prelude.{◌==◌}
use Rattle.page_base.specs.declared.column.Column.{Column}
use Rattle.plain_model.specs.declared.stmt.Stmt.TheVariants.{CreateTable}
use Rattle.early_engine.proofs.Choices.{create_outside, bad_definition, or_memory, same_decides}
use Rattle.early_engine.proofs.choosing.create.Goals as goal

pub returns-then-not-is_home : goal.returns-then-not-is_home
returns-then-not-is_home g c = same_decides c.args.pages.now c.args.db (CreateTable c.args.name.now c.args.cols.now) _ _ c.refused_outside.ensures
    (create_outside c.args.pages.now c.args.db c.args.name.now c.args.cols.now (sym c.is_home.ensures ∙ c.if-not-is_home.true))

pub returns-then-is_empty : goal.returns-then-is_empty
returns-then-is_empty g c = same_decides c.args.pages.now c.args.db (CreateTable c.args.name.now c.args.cols.now) _ _ c.at_once.ensures
    (bad_definition c.args.pages.now c.args.db (sym c.is_home.ensures ∙ c.if-not-is_home.false) c.args.name.now c.args.cols.now
    (ap (λ (cs : List Column). length cs == 0) (c.is_empty.ensures.0 c.if-is_empty.true)))

pub returns : goal.returns
returns g c = or_memory c.args.pages.now c.args.db (CreateTable c.args.name.now c.args.cols.now) refl tt (sym c.is_home.ensures ∙ c.if-not-is_home.false) c.create_in_source.result c.or_no_memory.result c.create_in_source.ensures c.or_no_memory.ensures
