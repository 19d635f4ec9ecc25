use Rattle.std.proofs.Common.{◌≡◌, ◌+◌, ◌++◌, ◌∷◌, [], ◌∙◌, List, take, ap, sym, subst, refl}
use Rattle.std.specs.Prelude.{All}
use Rattle.std.proofs.lemmas.List.{take_more, take_all}
use Rattle.std.proofs.lemmas.Bool.{false≢true, iff_false}
use Rattle.std.proofs.lemmas.List.Elements.{All-push}
use Rattle.table_walk.proofs.RowsLemmas.{Key}
use Rattle.table_walk.specs.Tables.{MayPut}
use Rattle.table_walk.proofs.limits.may_put.Goals as goal

pub loop-row-preserved : goal.loop-row-preserved
loop-row-preserved c =
    let xs : List Key = c.as_slice-row-items.result.now in
    let e : xs ≡ c.args.rows.now = c.as_slice-row-items.ensures in
    let i = c.loop-row.row-index in
    let x : Key = c.row-item.result in
    let more : take (i + 1) xs ≡ take i xs ++ x ∷ [] = take_more xs i x c.loop-row-test.true ∙ ap (λ (y : Key). take i xs ++ y ∷ []) (sym c.row-item.is) in
    let so_far : All (MayPut c.args.cols.now) (take i xs) = subst (λ (ys : List Key). All (MayPut c.args.cols.now) (take i ys)) (sym e) c.loop-row.invariant in
    subst (λ (ys : List Key). All (MayPut c.args.cols.now) (take (i + 1) ys)) e
    (subst (All (MayPut c.args.cols.now)) (sym more) (All-push (MayPut c.args.cols.now) (take i xs) x so_far (c.in_ok-may_put_row.ensures.0 c.if-not-branch.false)))

pub returns-then-not-branch : goal.returns-then-not-branch
returns-then-not-branch c = (
  (λ yes. absurd (false≢true yes)),
  λ all.
      let xs : List Key = c.as_slice-row-items.result.now in
      let e : xs ≡ c.args.rows.now = c.as_slice-row-items.ensures in
      let may : MayPut c.args.cols.now c.row-item.result =
      subst (MayPut c.args.cols.now) (sym c.row-item.is) (subst (λ (ys : List Key). All (MayPut c.args.cols.now) ys) (sym e) all c.loop-row.row-index c.row-item.result c.loop-row-test.true) in
      absurd (iff_false c.in_ok-may_put_row.ensures c.if-not-branch.true may),
)

pub returns : goal.returns
returns c = (
  (λ yes.
      let xs : List Key = c.as_slice-row-items.result.now in
      let e : xs ≡ c.args.rows.now = c.as_slice-row-items.ensures in
      subst (All (MayPut c.args.cols.now)) (ap (take c.loop-row.row-index) (sym e) ∙ take_all c.loop-row.row-index xs c.loop-row-test.false ∙ e) c.loop-row.invariant),
  λ all. refl,
)
