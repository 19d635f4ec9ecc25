use Rattle.std.proofs.Common.{◌∙◌, sym}
use Rattle.plain_model.specs.declared.reply.Reply.TheVariants.{Msg}
use Rattle.plain_model.specs.declared.reply.TheConstants.Message.{NO_MEMORY}
use Rattle.plain_model.specs.Messages.{plain}
use Rattle.early_engine.proofs.ChangeLemmas.{change_plain, change_of_tables}
use Rattle.early_engine.proofs.Choices.{change_outside, or_memory, same_decides}
use Rattle.early_engine.proofs.choosing.change.Goals as goal

pub returns-then-not-is_home : goal.returns-then-not-is_home
returns-then-not-is_home g c = same_decides c.args.pages.now c.args.db c.args.stmt.now _ _ c.refused_outside.ensures
    (change_outside c.args.pages.now c.args.db c.args.stmt.now c.requires.change (sym c.is_home.ensures ∙ c.if-not-is_home.true))

pub returns : goal.returns
returns g c = or_memory c.args.pages.now c.args.db c.args.stmt.now (change_of_tables c.args.stmt.now c.requires.change) (change_plain c.args.stmt.now (Msg (plain NO_MEMORY)) c.requires.change)
    (sym c.is_home.ensures ∙ c.if-not-is_home.false) c.change_in_source.result c.or_no_memory.result c.change_in_source.ensures c.or_no_memory.ensures
