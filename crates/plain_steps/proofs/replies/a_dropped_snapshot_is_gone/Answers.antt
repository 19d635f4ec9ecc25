use Rattle.std.proofs.Common.{refl, ap}
use Rattle.std.specs.Prelude.{Option, unwrap_or}
use Rattle.std.specs.FinMap as finite
use Rattle.plain_model.specs.Journal as journal
use Rattle.plain_model.specs.State.{files_of}
use Rattle.plain_model.specs.Tables.{Tables}
use Rattle.plain_steps.proofs.ReplyLemmas.{none_left, none_named, others_stay}
use Rattle.plain_steps.proofs.replies.a_dropped_snapshot_is_gone.Goals as goal

pub returns-clause-gone : goal.returns-clause-gone
returns-clause-gone c = λ st k d. none_left d st.snaps

pub returns-clause-off : goal.returns-clause-off
returns-clause-off c = λ st k d name h. none_named name (files_of st d) st.on_volume h

pub returns-clause-gone_too : goal.returns-clause-gone_too
returns-clause-gone_too c = λ st k d. none_left d st.snaps

pub returns-clause-source : goal.returns-clause-source
returns-clause-source c = λ st k d. refl

pub returns-clause-copies : goal.returns-clause-copies
returns-clause-copies c = λ st k d other apart. ap (λ (o : Option Tables). unwrap_or o finite.empty) (others_stay (journal.held st.opening st.journal).copies d other apart)
