use Rattle.std.proofs.Common.{◌≡◌, ◌+◌, ◌∙◌, ◌∷◌, [], ◌<◌, ℕ, List, length, sym, ap, refl, arith, subst, false, true}
use Rattle.plain_model.specs.State.{master}
use Rattle.early_engine.specs.Steps.{Leaves}
use Rattle.std.proofs.Math.ListN.{set}
use Rattle.early_engine.specs.Opened.{names_of, new_source}
use Rattle.early_engine.specs.Disks.{disk_of}
use Rattle.early_engine.specs.declared.seat.Seat.{Seat}
use Rattle.early_engine.specs.Entering.{Kept, entered}
use Rattle.early_engine.specs.Stepping.{number}
use Rattle.plain_model.specs.declared.event.Event.TheVariants.{Left}
use Rattle.early_engine.specs.Safe.{Run, Safe, seat_at, script_at}
use Rattle.early_engine.proofs.LeaveLemmas.{room_left, safe_leave}
use Rattle.early_engine.proofs.CourseLemmas.{seat_read}
use Rattle.early_engine.proofs.engine.Engine.leave.Goals as goal

pub enter-requires : goal.enter-requires
enter-requires g c =
    let e : Run = record {
      opening = new_source c.self.inside.source c.self.inside.file (names_of (g.V.Volume.folder c.self.inside.opened.value));
      scripts = c.self.inside.scripts;
      disk = disk_of g.V.Volume.tells g.V.Volume.folder g.V.Volume.out g.V.Volume.failures g.V.Volume.file_failures c.self.inside.volume;
      shown = c.self.inside.pages;
      seats = c.self.inside.seats.items;
      kept = c.self.inside.ledger;
    } in
    let is : c.args.self.now ≡ e = sym c.self.view_is in
    let safe : Safe e = c.self.invariant in
    let there = subst (λ (r : Run). c.args.place < length r.scripts) is c.requires.there in
    let here = subst (λ (r : Run). (seat_at r c.args.place).gone ≡ false) is c.requires.here in
    let all = subst (λ (r : Run). (seat_at r c.args.place).said ≡ length (script_at r c.args.place)) is c.requires.all in
    room_left e safe c.args.place there here all

pub invariant_of-self : goal.invariant_of-self
invariant_of-self g c =
    let e : Run = record {
      opening = new_source c.self.inside.source c.self.inside.file (names_of (g.V.Volume.folder c.self.inside.opened.value));
      scripts = c.self.inside.scripts;
      disk = disk_of g.V.Volume.tells g.V.Volume.folder g.V.Volume.out g.V.Volume.failures g.V.Volume.file_failures c.self.inside.volume;
      shown = c.self.inside.pages;
      seats = c.self.inside.seats.items;
      kept = c.self.inside.ledger;
    } in
    let is : c.args.self.now ≡ e = sym c.self.view_is in
    let safe : Safe e = c.self.invariant in
    let there = subst (λ (r : Run). c.args.place < length r.scripts) is c.requires.there in
    let here = subst (λ (r : Run). (seat_at r c.args.place).gone ≡ false) is c.requires.here in
    let all = subst (λ (r : Run). (seat_at r c.args.place).said ≡ length (script_at r c.args.place)) is c.requires.all in
    let read = seat_read e safe c.args.place there c.index.result.now c.index.ensures in
    let seat = ap (λ (n : List ℕ). record { current = n; said = (seat_at e c.args.place).said; gone = true }) (sym c.master.ensures)
    ∙ ap (λ (s : Seat). record { current = c.master.result; said = s.said; gone = true }) (sym read) in
    subst (λ (k : Kept). Safe (record e { seats = set e.seats c.args.place (record { current = c.master.result; said = c.index.result.now.said; gone = true }); kept = k })) (sym c.enter.ensures)
    (subst (λ (s : Seat). Safe (record e { seats = set e.seats c.args.place s; kept = entered e.kept (Left (number (c.args.place + 1))) })) seat (safe_leave e safe c.args.place there here all))

pub returns : goal.returns
returns g c =
    let e : Run = record {
      opening = new_source c.self.inside.source c.self.inside.file (names_of (g.V.Volume.folder c.self.inside.opened.value));
      scripts = c.self.inside.scripts;
      disk = disk_of g.V.Volume.tells g.V.Volume.folder g.V.Volume.out g.V.Volume.failures g.V.Volume.file_failures c.self.inside.volume;
      shown = c.self.inside.pages;
      seats = c.self.inside.seats.items;
      kept = c.self.inside.ledger;
    } in
    let is : c.args.self.now ≡ e = sym c.self.view_is in
    let safe : Safe e = c.self.invariant in
    let there = subst (λ (r : Run). c.args.place < length r.scripts) is c.requires.there in
    let here = subst (λ (r : Run). (seat_at r c.args.place).gone ≡ false) is c.requires.here in
    let all = subst (λ (r : Run). (seat_at r c.args.place).said ≡ length (script_at r c.args.place)) is c.requires.all in
    let read = seat_read e safe c.args.place there c.index.result.now c.index.ensures in
    let entered_is = ap (λ (k : Kept). k.events) c.enter.ensures in
    subst (λ (r : Run). Leaves r (record e { seats = set e.seats c.args.place (record { current = c.master.result; said = c.index.result.now.said; gone = true }); kept = c.enter.new.self }) c.args.place) c.self.view_is (record {
      there = there;
      here = here;
      all = all;
      steps = record {
        within = let s = safe.sessions.seats in omega (arith, s, there);
        goes = record { opening = refl; scripts = refl; told = refl; came = Left (number (c.args.place + 1)) ∷ []; grows = entered_is; failures = omega arith; file_failures = omega arith; blame = λ h. absurd (let x : false ≡ true = h in cc) };
        seats = ap (set e.seats c.args.place) (ap (λ (n : List ℕ). record { current = n; said = c.index.result.now.said; gone = true }) c.master.ensures ∙ ap (λ (s : Seat). record { current = master; said = s.said; gone = true }) read);
      };
      enters = entered_is;
      shown = refl;
      disk = refl;
    })
