use Rattle.std.proofs.Common.{refl, ap, ◌∙◌, cond}
use Rattle.std.specs.Prelude.{Option, option_map}
use Rattle.plain_model.specs.declared.reply.Reply.TheVariants.{Msg, Ok}
use Rattle.plain_model.specs.declared.reply.TheConstants.Message.{OTHER_SNAPSHOT, BEING_MADE, SUSPECT, IN_USE}
use Rattle.plain_model.specs.Messages.{plain, at_place, of_name}
use Rattle.plain_model.specs.State.{Snap}
use Rattle.plain_model.specs.Coming.{Next, Replies, Restores, unless, unless_shape}
use Rattle.plain_model.specs.OfSnaps.{no_restore}
use Rattle.plain_model.proofs.ReplyLemmas.{all_pass}
use Rattle.plain_model.proofs.law.being_made_is_told_before_suspect.Goals as goal

pub returns : goal.returns
returns c = λ st k d snap none alone made. all_pass (no_restore st k d snap) _ none ∙ (rw (alone, made) refl)
