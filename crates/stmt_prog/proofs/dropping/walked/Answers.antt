use Rattle.std.proofs.Common.{[], subst}
use Rattle.std.specs.Prelude.{MatchOption}
use Rattle.table_walk.specs.Answers.{IsAt, IsMemory}
use Rattle.table_walk.specs.Walk.{IsBad, IsSeenWalk, Lacks}
use Rattle.table_walk.proofs.Exits.{handed_on}
use Rattle.table_walk.proofs.WalkLemmas.{whole_walk, done_not_bad_at}
use Rattle.table_heap.proofs.PlanningLemmas.{only_memory}
use Rattle.page_tables.specs.Layout as layout
use Rattle.stmt_prog.proofs.dropping.walked.Goals as goal

pub returns-in_err-walked-clause-memory : goal.returns-in_err-walked-clause-memory
returns-in_err-walked-clause-memory c =
    handed_on IsMemory c.from_residual.result c.in_err-walked.field-0.0 c.from_residual.ensures.1
    (only_memory c.in_err-walked.field-0.0
    (done_not_bad_at layout.shape.kids c.args.own.now (layout.first c.args.root) (λ p s. ⊥) c.requires c.in_err-walked.field-0.0 (subst (λ s. IsAt (IsBad layout.shape.kids c.args.own.now s) c.in_err-walked.field-0.0) c.first.ensures c.in_err-walked.ensures.bad)))

pub returns-clause-done : goal.returns-clause-done
returns-clause-done c =
    whole_walk layout.shape.kids c.args.own.now (layout.first c.args.root) c.in_ok-walked.walked.done.items c.in_ok-walked.walked.lacks c.requires
    (subst (λ s. MatchOption c.in_ok-walked.walked.lacks (IsSeenWalk layout.shape.kids c.args.own.now s c.in_ok-walked.walked.done.items []) (λ v. Lacks layout.shape.kids c.args.own.now s v)) c.first.ensures c.in_ok-walked.ensures.done)
