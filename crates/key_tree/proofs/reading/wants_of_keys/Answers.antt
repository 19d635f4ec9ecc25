use Rattle.std.proofs.Common.{◌≡◌, [], refl, sym, subst, Some, arith}
use Rattle.std.specs.Prelude.{Option, MatchOption}
use Rattle.table_walk.specs.declared.visit.Visit.{Visit}
use Rattle.table_walk.specs.declared.find.Find.TheVariants.{Keys}
use Rattle.table_walk.specs.Answers.{IsAt}
use Rattle.table_walk.specs.Walk.{IsSeenWalk, Lacks, IsBad}
use Rattle.table_walk.proofs.Exits.{handed_on}
use Rattle.tree_laws.specs.Kids.{kids_by, tree_kids}
use Rattle.tree_laws.specs.LookUps.{IsBadFor}
use Rattle.key_tree.proofs.ReadLemmas.{kids_now, keys_now, on_tree, looked_more, asks_for, bad_for}
use Rattle.key_tree.proofs.reading.wants_of_keys.Goals as goal

pub returns-in_err-walked-clause-bad : goal.returns-in_err-walked-clause-bad
returns-in_err-walked-clause-bad c =
    let kids : kids_by c.look_for.new.self.keys c.look_for.new.self.key ≡ tree_kids c.args.cols.now (Some c.key-item.result) =
    kids_now c.args.cols.now c.look_for.new.self c.loop-key.tree c.key-item.result c.in_ok-copy_row.field-0 c.look_for.ensures c.loop-key.invariant.keys c.in_ok-copy_row.ensures in
    handed_on (IsAt (IsBadFor c.args.cols.now c.args.seen.now c.args.root (Keys c.args.keys.now))) c.from_residual-in_err-walked.result c.in_err-walked.field-0.0 c.from_residual-in_err-walked.ensures.1
    (bad_for c.args.cols.now c.args.seen.now c.args.root c.args.keys.now c.loop-key.key-index c.key-item.result c.loop-key-test.true c.key-item.is c.in_err-walked.field-0.0
    (on_tree c.args.cols.now (Some c.key-item.result) c.args.root (kids_by c.look_for.new.self.keys c.look_for.new.self.key) c.first.result (λ k s. IsAt (IsBad k c.args.seen.now s) c.in_err-walked.field-0.0) kids c.first.ensures c.in_err-walked.ensures.bad))

pub returns-in-Some-clause-tells : goal.returns-in-Some-clause-tells
returns-in-Some-clause-tells c =
    let kids : kids_by c.look_for.new.self.keys c.look_for.new.self.key ≡ tree_kids c.args.cols.now (Some c.key-item.result) =
    kids_now c.args.cols.now c.look_for.new.self c.loop-key.tree c.key-item.result c.in_ok-copy_row.field-0 c.look_for.ensures c.loop-key.invariant.keys c.in_ok-copy_row.ensures in
    let lacks = subst (λ (o : Option Visit). MatchOption o (IsSeenWalk (kids_by c.look_for.new.self.keys c.look_for.new.self.key) c.args.seen.now c.first.result c.in_ok-walked.walked.done.items []) (λ v. Lacks (kids_by c.look_for.new.self.keys c.look_for.new.self.key) c.args.seen.now c.first.result v)) c.in-Some.is c.in_ok-walked.ensures.done in
    asks_for c.args.cols.now c.args.seen.now c.args.root c.args.keys.now c.loop-key.key-index c.key-item.result c.in-Some.visit.page c.is_leaf.result c.loop-key.invariant.looked c.loop-key-test.true c.key-item.is
    (record {
      visit = c.in-Some.visit;
      lacks = on_tree c.args.cols.now (Some c.key-item.result) c.args.root (kids_by c.look_for.new.self.keys c.look_for.new.self.key) c.first.result (λ k s. Lacks k c.args.seen.now s c.in-Some.visit) kids c.first.ensures lacks;
      is = refl;
      leaf = sym c.is_leaf.ensures;
    })

pub loop-key-preserved : goal.loop-key-preserved
loop-key-preserved c =
    let kids : kids_by c.look_for.new.self.keys c.look_for.new.self.key ≡ tree_kids c.args.cols.now (Some c.key-item.result) =
    kids_now c.args.cols.now c.look_for.new.self c.loop-key.tree c.key-item.result c.in_ok-copy_row.field-0 c.look_for.ensures c.loop-key.invariant.keys c.in_ok-copy_row.ensures in
    let walk = subst (λ (o : Option Visit). MatchOption o (IsSeenWalk (kids_by c.look_for.new.self.keys c.look_for.new.self.key) c.args.seen.now c.first.result c.in_ok-walked.walked.done.items []) (λ v. Lacks (kids_by c.look_for.new.self.keys c.look_for.new.self.key) c.args.seen.now c.first.result v)) c.in-None.is c.in_ok-walked.ensures.done in
    record {
      keys = keys_now c.args.cols.now c.look_for.new.self c.loop-key.tree c.in_ok-copy_row.field-0 c.look_for.ensures c.loop-key.invariant.keys;
      looked = looked_more c.args.cols.now c.args.seen.now c.args.root c.args.keys.now c.loop-key.key-index c.key-item.result c.loop-key.invariant.looked c.loop-key-test.true c.key-item.is
          (c.in_ok-walked.walked.done.items, on_tree c.args.cols.now (Some c.key-item.result) c.args.root (kids_by c.look_for.new.self.keys c.look_for.new.self.key) c.first.result (λ k s. IsSeenWalk k c.args.seen.now s c.in_ok-walked.walked.done.items []) kids c.first.ensures walk);
    }

pub returns-clause-tells : goal.returns-clause-tells
returns-clause-tells c = λ k d lt. c.loop-key.invariant.looked k d (omega (arith, lt, c.loop-key-test.false))
