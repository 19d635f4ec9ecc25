use Rattle.std.proofs.Common.{◌≡◌, List, ℕ, sym, subst}
use Rattle.std.specs.Prelude.{Some, IfErr}
use Rattle.page_fmt.specs.Content.{content}
use Rattle.page_fmt.specs.Seen.{Looked, Saw}
use Rattle.table_walk.specs.declared.refusal.SeenRefusal.{SeenRefusal}
use Rattle.table_walk.specs.declared.refusal.SeenRefusal.TheVariants.{Damaged}
use Rattle.table_walk.specs.declared.visit.Visit.{Visit}
use Rattle.table_walk.specs.Answers.{IsAt}
use Rattle.table_walk.specs.Index.{Indexes}
use Rattle.table_walk.proofs.Exits.{handed_on}
use Rattle.table_scan.specs.Scanned.{Scanned, IsBadThen, IsUnderWay, ahead, with_page}
use Rattle.table_scan.proofs.ScanLemmas.{fresh_next, read_bad, indexed, read_way, read_twice, read_on}
use Rattle.table_scan.proofs.scan.Scan.read.Goals as goal

pub returns-in_err-more-clause-bad : goal.returns-in_err-more-clause-bad
returns-in_err-more-clause-bad c =
    let i = c.self.inside in
    let slots : List (List ℕ) = content c.args.image.now in
    let Bad : SeenRefusal → Type 0 = IsAt (IsBadThen (record { root = i.root; seen = i.seen; next = i.next }) slots) in
    subst (λ (s : Scanned). IfErr c.from_residual.result (IsAt (IsBadThen s slots))) c.self.view_is
    (handed_on Bad c.from_residual.result c.in_err-more.field-0.0 c.from_residual.ensures.1 (read_bad i.root i.seen i.places i.stack.items i.next c.unwrap-visit.result c.self.invariant c.unwrap-visit.ensures slots c.in_err-more.field-0.0 c.in_err-more.ensures.bad))

pub not_twice-requires : goal.not_twice-requires
not_twice-requires c =
    let i = c.self.inside in
    let v : Visit = c.unwrap-visit.result in
    let slots : List (List ℕ) = content c.args.image.now in
    subst (Indexes c.insert.new.self) (sym c.in_ok-add.ensures.ok)
    (indexed i.seen v slots i.places c.insert.new.self c.len.result c.self.invariant.way.index (fresh_next i.root i.seen i.places i.stack.items i.next v c.self.invariant c.unwrap-visit.ensures) c.len.ensures (λ q. c.in_ok-insert.ensures.updates.0 q))

pub returns-in_err-next-clause-bad : goal.returns-in_err-next-clause-bad
returns-in_err-next-clause-bad c =
    let i = c.self.inside in
    let v : Visit = c.unwrap-visit.result in
    let slots : List (List ℕ) = content c.args.image.now in
    let index : Indexes c.insert.new.self (with_page i.seen v.page slots) =
    indexed i.seen v slots i.places c.insert.new.self c.len.result c.self.invariant.way.index (fresh_next i.root i.seen i.places i.stack.items i.next v c.self.invariant c.unwrap-visit.ensures) c.len.ensures (λ q. c.in_ok-insert.ensures.updates.0 q) in
    let way : IsUnderWay i.root (with_page i.seen v.page slots) c.insert.new.self (ahead c.pop.result c.pop.new.self.items) =
    read_way i.root i.seen i.places i.stack.items i.next v c.self.invariant c.unwrap-visit.ensures slots c.insert.new.self c.in_ok-more.more.items c.reverse.new.self.items c.append.new.self.items c.pop.new.self.items c.pop.result
    c.in_ok-more.ensures.ok index c.reverse.ensures.items c.in_ok-append.ensures.items c.pop.ensures.items in
    let Bad : SeenRefusal → Type 0 = IsAt (IsBadThen (record { root = i.root; seen = i.seen; next = i.next }) slots) in
    subst (λ (s : Scanned). IfErr c.from_residual-in_err-next.result (IsAt (IsBadThen s slots))) c.self.view_is
    (handed_on Bad c.from_residual-in_err-next.result c.in_err-next.field-0.0 c.from_residual-in_err-next.ensures.1
    (read_twice i.root i.seen i.places i.stack.items i.next v c.self.invariant c.unwrap-visit.ensures slots c.insert.new.self c.pop.new.self.items c.pop.result c.in_err-next.field-0.0 way
    (subst (λ (s : List Looked). (u : Visit) × (c.pop.result ≡ Some u) × Saw s u.page × (c.in_err-next.field-0.0 ≡ Damaged u.from u.slot)) c.in_ok-add.ensures.ok c.in_err-next.ensures.twice)))

pub invariant_of-result : goal.invariant_of-result
invariant_of-result c =
    let i = c.self.inside in
    let on = read_on i.root i.seen i.places i.stack.items i.next c.unwrap-visit.result c.self.invariant c.unwrap-visit.ensures (content c.args.image.now) c.insert.new.self c.in_ok-more.more.items c.reverse.new.self.items c.append.new.self.items c.pop.new.self.items
    c.pop.result c.in_ok-next.next c.add.new.self c.len.result c.append.new.self.len c.in_ok-more.ensures.ok c.len.ensures (λ q. c.in_ok-insert.ensures.updates.0 q) c.reverse.ensures.items c.in_ok-append.ensures.items c.append.new.self.ok.0 c.pop.ensures.items c.pop.ensures.variant
    c.in_ok-add.ensures.ok c.in_ok-next.ensures.same c.in_ok-next.ensures.new in
    on

pub returns-clause-scan : goal.returns-clause-scan
returns-clause-scan c =
    let i = c.self.inside in
    let on = read_on i.root i.seen i.places i.stack.items i.next c.unwrap-visit.result c.self.invariant c.unwrap-visit.ensures (content c.args.image.now) c.insert.new.self c.in_ok-more.more.items c.reverse.new.self.items c.append.new.self.items c.pop.new.self.items
    c.pop.result c.in_ok-next.next c.add.new.self c.len.result c.append.new.self.len c.in_ok-more.ensures.ok c.len.ensures (λ q. c.in_ok-insert.ensures.updates.0 q) c.reverse.ensures.items c.in_ok-append.ensures.items c.append.new.self.ok.0 c.pop.ensures.items c.pop.ensures.variant
    c.in_ok-add.ensures.ok c.in_ok-next.ensures.same c.in_ok-next.ensures.new in
    on.scan
