use Rattle.std.proofs.Common.{◌≡◌, ◌+◌, ◌∙◌, sym, ap, refl, subst}
use Rattle.std.proofs.Math.ListN.{set}
use Rattle.plain_model.specs.declared.stmt.Stmt.{Stmt}
use Rattle.early_engine.specs.Opened.{names_of, new_source}
use Rattle.early_engine.specs.Disks.{disk_of}
use Rattle.early_engine.specs.declared.seat.Seat.{Seat}
use Rattle.early_engine.specs.Deciding.{IsCut}
use Rattle.std.specs.Prelude.{Some}
use Rattle.early_engine.specs.Safe.{Run, Safe}
use Rattle.early_engine.specs.Steps.{next_stmt, HasNext}
use Rattle.early_engine.proofs.CourseLemmas.{enough, here, says, own_seat, own_stmt, seat_next, cut_only}
use Rattle.early_engine.proofs.SayingLemmas.{says_cut}
use Rattle.early_engine.specs.Causes.{HasPlace}
use Rattle.early_engine.proofs.engine.Engine.cut.Goals as goal
use Rattle.early_engine.proofs.engine.Engine.cut.Goals.{in-CreateSnap, in_default}

pub create_snapshot-requires-clause-room : goal.create_snapshot-requires-clause-room
create_snapshot-requires-clause-room g c =
    let e : Run = record {
      opening = new_source c.self.inside.source c.self.inside.file (names_of (g.V.Volume.folder c.self.inside.opened.value));
      scripts = c.self.inside.scripts;
      disk = disk_of g.V.Volume.tells g.V.Volume.folder g.V.Volume.out g.V.Volume.failures g.V.Volume.file_failures c.self.inside.volume;
      shown = c.self.inside.pages;
      seats = c.self.inside.seats.items;
      kept = c.self.inside.ledger;
    } in
    let is : c.args.self.now ≡ e = sym c.self.view_is in
    let safe : Safe e = c.self.invariant in
    let next = subst (λ (r : Run). HasNext r c.args.place) is c.requires.next in
    enough e safe c.args.place next

pub invariant_of-self : goal.invariant_of-self
invariant_of-self g c =
    let e : Run = record {
      opening = new_source c.self.inside.source c.self.inside.file (names_of (g.V.Volume.folder c.self.inside.opened.value));
      scripts = c.self.inside.scripts;
      disk = disk_of g.V.Volume.tells g.V.Volume.folder g.V.Volume.out g.V.Volume.failures g.V.Volume.file_failures c.self.inside.volume;
      shown = c.self.inside.pages;
      seats = c.self.inside.seats.items;
      kept = c.self.inside.ledger;
    } in
    let is : c.args.self.now ≡ e = sym c.self.view_is in
    let safe : Safe e = c.self.invariant in
    let next = subst (λ (r : Run). HasNext r c.args.place) is c.requires.next in
    let seat = c.index-seat.result.now in
    let seat_is = own_seat e safe c.args.place next seat c.index-seat.ensures in
    let stmt_is = own_stmt e safe c.args.place next seat c.stmt_at.result.now seat_is c.stmt_at.ensures.is in
    let cut = subst (λ (r : Run). IsCut (next_stmt r c.args.place)) is c.requires.course in
    elim c.match-stmt_at.branch [
      | in-CreateSnap w ↦
          let there = says e safe c.args.place next ∙ ap Some (stmt_is ∙ w.in-CreateSnap.is) in
          let made = w.create_snapshot.ensures.safe e c.args.place safe next.there (here e safe c.args.place next) there refl refl refl refl (ap (λ (s : Seat). s.said + 1) seat_is) refl refl in
          rw w.self-inside-is (subst (λ (s : Seat). Safe (record e {
            disk = disk_of g.V.Volume.tells g.V.Volume.folder g.V.Volume.out g.V.Volume.failures g.V.Volume.file_failures w.create_snapshot.new.volume;
            shown = w.create_snapshot.new.pages;
            seats = set e.seats c.args.place s;
            kept = w.create_snapshot.new.ledger;
          })) (seat_next e safe c.args.place next seat seat_is) made)
      | in_default w ↦ absurd (cut_only c.stmt_at.result.now (subst (λ (x : Stmt). IsCut x) stmt_is cut) w.in_default.not-CreateSnap)
    ]

pub returns : goal.returns
returns g c =
    let e : Run = record {
      opening = new_source c.self.inside.source c.self.inside.file (names_of (g.V.Volume.folder c.self.inside.opened.value));
      scripts = c.self.inside.scripts;
      disk = disk_of g.V.Volume.tells g.V.Volume.folder g.V.Volume.out g.V.Volume.failures g.V.Volume.file_failures c.self.inside.volume;
      shown = c.self.inside.pages;
      seats = c.self.inside.seats.items;
      kept = c.self.inside.ledger;
    } in
    let is : c.args.self.now ≡ e = sym c.self.view_is in
    let safe : Safe e = c.self.invariant in
    let next = subst (λ (r : Run). HasNext r c.args.place) is c.requires.next in
    let seat = c.index-seat.result.now in
    let seat_is = own_seat e safe c.args.place next seat c.index-seat.ensures in
    let stmt_is = own_stmt e safe c.args.place next seat c.stmt_at.result.now seat_is c.stmt_at.ensures.is in
    let cut = subst (λ (r : Run). IsCut (next_stmt r c.args.place)) is c.requires.course in
    elim c.match-stmt_at.branch [
      | in-CreateSnap w ↦
          let there : HasPlace e.shown (next_stmt e c.args.place) = subst (λ (x : Stmt). HasPlace e.shown x) (sym (stmt_is ∙ w.in-CreateSnap.is)) tt in
          rw w.self-inside-is (says_cut e safe c.args.place next c.args.self.now c.self.view_is seat seat_is
          (disk_of g.V.Volume.tells g.V.Volume.folder g.V.Volume.out g.V.Volume.failures g.V.Volume.file_failures w.create_snapshot.new.volume)
          w.create_snapshot.ensures.tells w.create_snapshot.ensures.later w.create_snapshot.ensures.file_later w.create_snapshot.new.pages w.create_snapshot.new.ledger there w.create_snapshot.ensures.adds)
      | in_default w ↦ absurd (cut_only c.stmt_at.result.now (subst (λ (x : Stmt). IsCut x) stmt_is cut) w.in_default.not-CreateSnap)
    ]
