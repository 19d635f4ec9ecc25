use Rattle.std.proofs.Common.{◌≡◌, ◌∙◌, ◌-◌, ap, ℕ, true, cond, nat_le, ◌∷◌, Bool}
use Rattle.plain_model.specs.Journal.{Committed}
use Rattle.plain_model.specs.Legal.{with_session, outside, after_commit}
use Rattle.plain_model.specs.State.{Plain, Session, session, committed}
use Rattle.plain_steps.proofs.ReplyLemmas.{put_there}
use Rattle.plain_steps.proofs.replies.a_commit_makes_its_changes_the_source.Goals as goal

-- the transaction's own COMMIT
whole : (st : Plain) (k : ℕ) → (session st k).depth ≡ 1 → after_commit st k ≡ record (with_session st k (outside (session st k))) { journal = Committed k (session st k).work ∷ st.journal }
whole st k one =
    ap (λ (n : ℕ). cond (nat_le 2 n) (with_session st k (record (session st k) { depth = (session st k).depth - 1 })) (record (with_session st k (outside (session st k))) { journal = Committed k (session st k).work ∷ st.journal })) one

-- an inner COMMIT
inner : (st : Plain) (k : ℕ) → nat_le 2 (session st k).depth ≡ true → after_commit st k ≡ with_session st k (record (session st k) { depth = (session st k).depth - 1 })
inner st k more =
    ap (λ (b : Bool). cond b (with_session st k (record (session st k) { depth = (session st k).depth - 1 })) (record (with_session st k (outside (session st k))) { journal = Committed k (session st k).work ∷ st.journal })) more

pub returns-clause-source : goal.returns-clause-source
returns-clause-source c = λ st k one. ap committed (whole st k one)

pub returns-clause-depth : goal.returns-clause-depth
returns-clause-depth c = λ st k there one. ap (λ (x : Plain). (session x k).depth) (whole st k one) ∙ ap (λ (s : Session). s.depth) (put_there st k (outside (session st k)) there)

pub returns-clause-work : goal.returns-clause-work
returns-clause-work c = λ st k there one. ap (λ (x : Plain). (session x k).work) (whole st k one) ∙ ap (λ (s : Session). s.work) (put_there st k (outside (session st k)) there)

pub returns-clause-inner_depth : goal.returns-clause-inner_depth
returns-clause-inner_depth c = λ st k there more. ap (λ (x : Plain). (session x k).depth) (inner st k more) ∙ ap (λ (s : Session). s.depth) (put_there st k _ there)

pub returns-clause-inner_work : goal.returns-clause-inner_work
returns-clause-inner_work c = λ st k there more. ap (λ (x : Plain). (session x k).work) (inner st k more) ∙ ap (λ (s : Session). s.work) (put_there st k _ there)

pub returns-clause-inner_source : goal.returns-clause-inner_source
returns-clause-inner_source c = λ st k more. ap committed (inner st k more)
