use Rattle.std.proofs.Common.{◌≡◌, ◌∙◌, ap, List, ℕ, true, false}
use Rattle.std.specs.Prelude.{Option, Some, None}
use Rattle.std.specs.Str.{bytes_eq}
use Rattle.std.specs.List.{list_any}
use Rattle.plain_model.specs.Legal.{with_doubt, without_made}
use Rattle.plain_model.specs.Next.{sparse_names}
use Rattle.plain_model.specs.State.{Plain, session, is_snap}
use Rattle.plain_steps.proofs.ReplyLemmas.{none_left, none_named, among}
use Rattle.plain_steps.proofs.replies.a_snapshot_that_failed_is_gone.Goals as goal

-- names and doubts don't depend on the snapshot that is made
made_names : (st : Plain) (made : Option (List ℕ)) (names : List (List ℕ)) (name : List ℕ) → list_any (bytes_eq name) names ≡ true → list_any (bytes_eq name) (with_doubt (without_made st made) names).on_volume ≡ false
made_names st None names name h = none_named name names st.on_volume h
made_names st (Some snap) names name h = none_named name names st.on_volume h

made_doubts : (st : Plain) (made : Option (List ℕ)) (names : List (List ℕ)) (name : List ℕ) → list_any (bytes_eq name) names ≡ true → list_any (bytes_eq name) (with_doubt (without_made st made) names).in_doubt ≡ true
made_doubts st None names name h = among name names st.in_doubt h
made_doubts st (Some snap) names name h = among name names st.in_doubt h

pub returns-clause-gone : goal.returns-clause-gone
returns-clause-gone c = λ st k made snap files of is. ap (λ (o : Option (List ℕ)). is_snap (with_doubt (without_made st o) (sparse_names files)) made) is ∙ none_left made st.snaps

pub returns-clause-doubt : goal.returns-clause-doubt
returns-clause-doubt c = λ st k snap name files of h. made_doubts st (session st k).making (sparse_names files) name h

pub returns-clause-off : goal.returns-clause-off
returns-clause-off c = λ st k snap name files of h. made_names st (session st k).making (sparse_names files) name h
