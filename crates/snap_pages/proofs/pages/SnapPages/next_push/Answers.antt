-- The first that is due is the lowest.
use Rattle.std.proofs.Common.{◌≡◌, ◌<◌, ◌≤◌, sym, subst, ◌∙◌, arith}
use Rattle.page_base.specs.declared.numbers.SnapNo.{SnapNo}
use Rattle.snap_pages.specs.Shown.{Shown, IsOpen, count}
use Rattle.snap_pages.proofs.DueLemmas.{next_is, next_none}
use Rattle.snap_pages.proofs.pages.SnapPages.next_push.Goals as goal

pub returns-then-is_due-clause-is : goal.returns-then-is_due-clause-is
returns-then-is_due-clause-is g c =
    let v : Shown = record { pool = c.self.inside.pool; cat = c.self.inside.cat; sets = c.self.inside.sets.items } in
    let e : v ≡ c.args.self.now = c.self.view_is in
    let s : SnapNo = record { 0 = c.loop-s.s } in
    let below : s.0 < c.count-s-end.result = c.loop-s-test.true in
    let all : c.count-s-end.result ≡ count v = c.count-s-end.ensures.count in
    let there : IsOpen v s = omega arith in
    next_is c.args.self.now c.args.p s (subst (λ (x : Shown). IsOpen x s) e there) (sym c.is_due.ensures ∙ c.if-is_due.true) c.loop-s.invariant

pub returns-clause-is : goal.returns-clause-is
returns-clause-is g c =
    let v : Shown = record { pool = c.self.inside.pool; cat = c.self.inside.cat; sets = c.self.inside.sets.items } in
    let e : v ≡ c.args.self.now = c.self.view_is in
    let end : c.count-s-end.result ≤ c.loop-s.s = c.loop-s-test.false in
    let all : c.count-s-end.result ≡ count v = c.count-s-end.ensures.count in
    next_none c.args.self.now c.args.p
    (λ k lt. let below : k.0 < count v = subst (λ (x : Shown). k.0 < count x) (sym e) lt in c.loop-s.invariant k (omega arith))
