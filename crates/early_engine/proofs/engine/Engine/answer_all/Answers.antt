use Rattle.std.proofs.Common.{inl, refl, ◌≡◌, ◌+◌, ◌∙◌, ◌≤◌, ◌<◌, List, [], length, get_or, sym, ap, subst, arith}
use Rattle.plain_model.specs.declared.stmt.Stmt.{Stmt}
use Rattle.early_engine.specs.declared.seat.Seat.{Seat}
use Rattle.early_engine.specs.Safe.{Run, seat_at, script_at}
use Rattle.std.proofs.lemmas.Option.{get_or_from_slice_get, slice_get_within}
use Rattle.early_engine.specs.Opened.{names_of, new_source}
use Rattle.early_engine.specs.Disks.{disk_of}
use Rattle.early_engine.proofs.CourseLemmas.{seat_read}
use Rattle.early_engine.specs.Schedules.{IsLowest, none, more}
use Rattle.early_engine.proofs.OrderLemmas.{lowest_one}
use Rattle.early_engine.proofs.EndLemmas.{script_short, seat_now, seats_stay, goes_still, goes_on}
use Rattle.early_engine.proofs.engine.Engine.answer_all.Goals as goal

pub overflow_cast-all : goal.overflow_cast-all
overflow_cast-all g c =
    let is = get_or_from_slice_get c.self.inside.scripts c.args.place c.at.result.now [] c.at.ensures in
    let n = ap (λ (ss : List Stmt). length ss) is in
    let h = script_short c.self.inside.scripts c.args.place c.self.invariant.sessions.scripts (slice_get_within c.self.inside.scripts c.args.place c.at.result.now c.at.ensures) in
    let l = c.len-all.ensures in
    omega (arith, n, h, l)

pub statement-requires : goal.statement-requires
statement-requires g c =
    let inv = c.loop.invariant in
    let len : length (script_at c.loop.self c.args.place) ≡ c.len-all.result =
    ap (λ (ss : List (List Stmt)). length (get_or ss c.args.place [])) (inv.goes.scripts ∙ ap (λ (r : Run). r.scripts) (sym c.self.view_is))
    ∙ ap (λ (ss : List Stmt). length ss) (get_or_from_slice_get c.self.inside.scripts c.args.place c.at.result.now [] c.at.ensures) ∙ sym c.len-all.ensures in
    let s = inv.said in
    let t = c.loop-test.true in
    record { next = record { there = subst (λ (ss : List (List Stmt)). c.args.place < length ss) (sym inv.goes.scripts) c.requires.there; more = omega (arith, len, s, t) } }

pub loop-init : goal.loop-init
loop-init g c =
    let e : Run = record {
      opening = new_source c.self.inside.source c.self.inside.file (names_of (g.V.Volume.folder c.self.inside.opened.value));
      scripts = c.self.inside.scripts;
      disk = disk_of g.V.Volume.tells g.V.Volume.folder g.V.Volume.out g.V.Volume.failures g.V.Volume.file_failures c.self.inside.volume;
      shown = c.self.inside.pages;
      seats = c.self.inside.seats.items;
      kept = c.self.inside.ledger;
    } in
    let lt = slice_get_within c.self.inside.scripts c.args.place c.at.result.now c.at.ensures in
    let read = ap (λ (s : Seat). s.said) (seat_read e c.self.invariant c.args.place lt c.index.result.now c.index.ensures) in
    record { goes = goes_still c.args.self.now; said = ap (λ (r : Run). (seat_at r c.args.place).said) (sym c.self.view_is) ∙ sym read; others = λ j ne. refl; rounds = none c.args.self.now; order = refl }

pub loop-preserved : goal.loop-preserved
loop-preserved g c =
    let inv = c.loop.invariant in
    let says = c.statement.ensures in
    let now = seat_now c.loop.self c.statement.new.self c.args.place _ says.steps in
    let low : IsLowest c.loop.self c.args.place = record {
      here = says.here;
      before = λ j lt. ap (λ (s : Seat). s.gone) (inv.others j (λ e. omega (arith, e, lt))) ∙ c.requires.before j lt;
    } in
    record {
      goes = goes_on c.args.self.now c.loop.self c.statement.new.self inv.goes says.steps.goes;
      said = ap (λ (s : Seat). s.said) now ∙ ap (λ n. n + 1) inv.said;
      others = λ j ne. seats_stay c.loop.self c.statement.new.self c.args.place _ says.steps j ne ∙ inv.others j ne;
      rounds = more c.args.self.now c.loop.self c.statement.new.self c.args.place inv.rounds low (inl says);
      order = lowest_one c.loop.self c.statement.new.self c.args.place low (inl says) ∙ inv.order;
    }

pub returns-clause-all : goal.returns-clause-all
returns-clause-all g c =
    let inv = c.loop.invariant in
    let len : length (script_at c.loop.self c.args.place) ≡ c.len-all.result =
    ap (λ (ss : List (List Stmt)). length (get_or ss c.args.place [])) (inv.goes.scripts ∙ ap (λ (r : Run). r.scripts) (sym c.self.view_is))
    ∙ ap (λ (ss : List Stmt). length ss) (get_or_from_slice_get c.self.inside.scripts c.args.place c.at.result.now [] c.at.ensures) ∙ sym c.len-all.ensures in
    let e : Run = record {
      opening = new_source c.self.inside.source c.self.inside.file (names_of (g.V.Volume.folder c.self.inside.opened.value));
      scripts = c.self.inside.scripts;
      disk = disk_of g.V.Volume.tells g.V.Volume.folder g.V.Volume.out g.V.Volume.failures g.V.Volume.file_failures c.self.inside.volume;
      shown = c.self.inside.pages;
      seats = c.self.inside.seats.items;
      kept = c.self.inside.ledger;
    } in
    let lt = slice_get_within c.self.inside.scripts c.args.place c.at.result.now c.at.ensures in
    let read = ap (λ (s : Seat). s.said) (seat_read e c.self.invariant c.args.place lt c.index.result.now c.index.ensures) in
    let b : (seat_at e c.args.place).said ≤ length (script_at e c.args.place) = c.self.invariant.sessions.said c.args.place lt in
    let m = ap (λ (ss : List Stmt). length ss) (get_or_from_slice_get c.self.inside.scripts c.args.place c.at.result.now [] c.at.ensures) in
    let l = c.len-all.ensures in
    let past = c.loop-test.false in
    let up = c.loop.auto.counter-end (omega (arith, read, b, m, l)) in
    let s = inv.said in
    omega (arith, len, past, up, s)
