use Rattle.std.proofs.Common.{ℕ, ◌<◌, length, get_or, sym, ◌∙◌, subst}
use Rattle.page_fmt.specs.Seen.{Saw, look}
use Rattle.table_walk.specs.declared.visit.Visit.{Visit}
use Rattle.table_walk.specs.declared.refusal.SeenRefusal.{SeenRefusal}
use Rattle.table_walk.specs.Tables.{cells, AreRows, IsBadRow}
use Rattle.table_walk.specs.Answers.{IsAt}
use Rattle.table_walk.proofs.Exits.{handed_on}
use Rattle.table_walk.proofs.WalkLemmas.{whole_walk, one_walk, done_not_bad_at}
use Rattle.table_walk.proofs.VisitLemmas.{walk_row, walk_bad_row}
use Rattle.table_walk.proofs.rows.row_of.Goals as goal

pub returns-in_err-walked-clause-bad : goal.returns-in_err-walked-clause-bad
returns-in_err-walked-clause-bad g c =
    let Bad : SeenRefusal → Type 0 = IsAt (IsBadRow (g.L.Layout.kids c.args.layout.now) c.args.cols.now c.args.seen.now c.args.start) in
    handed_on Bad c.from_residual.result c.in_err-walked.field-0.0 c.from_residual.ensures.1
    (done_not_bad_at (g.L.Layout.kids c.args.layout.now) c.args.seen.now c.args.start (IsBadRow (g.L.Layout.kids c.args.layout.now) c.args.cols.now c.args.seen.now c.args.start) c.requires.done c.in_err-walked.field-0.0 c.in_err-walked.ensures.bad)

pub gathered-requires-clause-saw : goal.gathered-requires-clause-saw
gathered-requires-clause-saw g c =
    let w = whole_walk (g.L.Layout.kids c.args.layout.now) c.args.seen.now c.args.start c.in_ok-walked.walked.done.items c.in_ok-walked.walked.lacks c.requires.done c.in_ok-walked.ensures.done in
    λ k d lt. subst (λ vs. (k : ℕ) (d : Visit) → k < length vs → Saw c.args.seen.now (get_or vs k d).page) (sym c.as_slice.ensures.value) w.were k d lt

pub returns-in_err-rows-clause-bad : goal.returns-in_err-rows-clause-bad
returns-in_err-rows-clause-bad g c =
    let w = whole_walk (g.L.Layout.kids c.args.layout.now) c.args.seen.now c.args.start c.in_ok-walked.walked.done.items c.in_ok-walked.walked.lacks c.requires.done c.in_ok-walked.ensures.done in
    let Bad : SeenRefusal → Type 0 = IsAt (IsBadRow (g.L.Layout.kids c.args.layout.now) c.args.cols.now c.args.seen.now c.args.start) in
    handed_on Bad c.from_residual-in_err-rows.result c.in_err-rows.field-0.0 c.from_residual-in_err-rows.ensures.1
    (walk_bad_row (g.L.Layout.kids c.args.layout.now) c.args.cols.now c.args.seen.now c.args.start c.in_ok-walked.walked.done.items c.as_slice.result.now c.in_err-rows.field-0.0 w c.as_slice.ensures.value c.in_err-rows.ensures.bad)

pub returns-clause-row : goal.returns-clause-row
returns-clause-row g c = λ done all v gathers.
    let w = whole_walk (g.L.Layout.kids c.args.layout.now) c.args.seen.now c.args.start c.in_ok-walked.walked.done.items c.in_ok-walked.walked.lacks c.requires.done c.in_ok-walked.ensures.done in
    walk_row (g.L.Layout.kids c.args.layout.now) c.args.cols.now c.in_ok-keys.keys c.args.key.now c.args.seen.now c.args.start c.in_ok-walked.walked.done.items c.as_slice.result.now done c.in_ok-rows.rows all c.take.result w v
    c.as_slice.ensures.value c.in_ok-keys.ensures c.in_ok-rows.ensures.rows c.take.ensures.row gathers

pub returns-clause-are : goal.returns-clause-are
returns-clause-are g c = λ done v.
    let w = whole_walk (g.L.Layout.kids c.args.layout.now) c.args.seen.now c.args.start c.in_ok-walked.walked.done.items c.in_ok-walked.walked.lacks c.requires.done c.in_ok-walked.ensures.done in
    subst (λ vs. AreRows c.args.cols.now (cells (look c.args.seen.now) vs)) (c.as_slice.ensures.value ∙ one_walk (g.L.Layout.kids c.args.layout.now) c.args.seen.now c.args.start c.in_ok-walked.walked.done.items done w v) c.in_ok-rows.ensures.are
