use Rattle.std.proofs.Common.{◌≡◌, sym, subst, ap, ◌∙◌, None}
use Rattle.table_walk.specs.declared.find.Find.{Find}
use Rattle.table_walk.specs.Answers.{IsAt, Tells}
use Rattle.table_walk.specs.Walk.{IsBad}
use Rattle.table_walk.proofs.Exits.{if_ok, if_err}
use Rattle.table_walk.proofs.TableLemmas.{owned_wants, table_not_bad}
use Rattle.tree_laws.specs.Keys.{key_columns}
use Rattle.tree_laws.specs.Kids.{kids_by, tree_kids, first}
use Rattle.tree_laws.specs.LookUps.{TellsFor, IsBadFor}
use Rattle.tree_laws.specs.Order.{tree_shape}
use Rattle.key_tree.proofs.ReadLemmas.{kids_all, on_tree, keys_owned, keys_not_bad}
use Rattle.key_tree.proofs.reading.wants.Goals as goal

pub returns-in_ok-keys-in-All-clause-tells : goal.returns-in_ok-keys-in-All-clause-tells
returns-in_ok-keys-in-All-clause-tells c =
    let kids : kids_by c.whole.result.keys c.whole.result.key ≡ tree_kids c.args.cols.now None = kids_all c.args.cols.now c.in_ok-keys-in-All.keys c.whole.result c.whole.ensures (c.in_ok-keys-in-All.ensures.columns ∙ ap key_columns c.as_slice.ensures) in
    if_ok c.wants_of-in-All.result (λ w tells. subst (λ (f : Find). TellsFor c.args.cols.now c.args.seen.now c.args.root f w) (sym c.in-All.is)
    (on_tree c.args.cols.now None c.args.root (kids_by c.whole.result.keys c.whole.result.key) c.first.result (λ k s. Tells k c.args.seen.now s w) kids c.first.ensures tells)) c.wants_of-in-All.ensures.tells

pub returns-in_ok-keys-in-All-clause-bad : goal.returns-in_ok-keys-in-All-clause-bad
returns-in_ok-keys-in-All-clause-bad c =
    let kids : kids_by c.whole.result.keys c.whole.result.key ≡ tree_kids c.args.cols.now None = kids_all c.args.cols.now c.in_ok-keys-in-All.keys c.whole.result c.whole.ensures (c.in_ok-keys-in-All.ensures.columns ∙ ap key_columns c.as_slice.ensures) in
    if_err c.wants_of-in-All.result (λ e bad. subst (λ (f : Find). IsAt (IsBadFor c.args.cols.now c.args.seen.now c.args.root f) e) (sym c.in-All.is)
    (on_tree c.args.cols.now None c.args.root (kids_by c.whole.result.keys c.whole.result.key) c.first.result (λ k s. IsAt (IsBad k c.args.seen.now s) e) kids c.first.ensures bad)) c.wants_of-in-All.ensures.bad

pub returns-in_ok-keys-in-All-clause-owned : goal.returns-in_ok-keys-in-All-clause-owned
returns-in_ok-keys-in-All-clause-owned c = λ at owns all t shows.
    let kids : kids_by c.whole.result.keys c.whole.result.key ≡ tree_kids c.args.cols.now None = kids_all c.args.cols.now c.in_ok-keys-in-All.keys c.whole.result c.whole.ensures (c.in_ok-keys-in-All.ensures.columns ∙ ap key_columns c.as_slice.ensures) in
    if_ok c.wants_of-in-All.result (λ w tells. owned_wants (tree_shape c.args.cols.now) c.args.cols.now at owns (first c.args.root) all c.args.seen.now t w shows
    (on_tree c.args.cols.now None c.args.root (kids_by c.whole.result.keys c.whole.result.key) c.first.result (λ k s. Tells k c.args.seen.now s w) kids c.first.ensures tells)) c.wants_of-in-All.ensures.tells

pub returns-in_ok-keys-in-All-clause-whole : goal.returns-in_ok-keys-in-All-clause-whole
returns-in_ok-keys-in-All-clause-whole c = λ at owns all t shows.
    let kids : kids_by c.whole.result.keys c.whole.result.key ≡ tree_kids c.args.cols.now None = kids_all c.args.cols.now c.in_ok-keys-in-All.keys c.whole.result c.whole.ensures (c.in_ok-keys-in-All.ensures.columns ∙ ap key_columns c.as_slice.ensures) in
    if_err c.wants_of-in-All.result (λ e bad. table_not_bad (tree_shape c.args.cols.now) c.args.cols.now at owns (first c.args.root) all c.args.seen.now t e shows
    (on_tree c.args.cols.now None c.args.root (kids_by c.whole.result.keys c.whole.result.key) c.first.result (λ k s. IsAt (IsBad k c.args.seen.now s) e) kids c.first.ensures bad)) c.wants_of-in-All.ensures.bad

pub returns-in-Keys-clause-owned : goal.returns-in-Keys-clause-owned
returns-in-Keys-clause-owned c = λ at owns all t shows.
    if_ok c.wants_of_keys.result (λ w tells. keys_owned c.args.cols.now c.args.seen.now c.args.root at owns all t shows c.as_slice-in-Keys.result.now w tells) c.wants_of_keys.ensures.tells

pub returns-in-Keys-clause-whole : goal.returns-in-Keys-clause-whole
returns-in-Keys-clause-whole c = λ at owns all t shows.
    if_err c.wants_of_keys.result (λ e bad. keys_not_bad c.args.cols.now c.args.seen.now c.args.root at owns all t shows c.as_slice-in-Keys.result.now e bad) c.wants_of_keys.ensures.bad
