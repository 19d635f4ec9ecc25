use Rattle.std.proofs.Common.{◌≡◌, sym, refl, subst}
use Rattle.early_engine.specs.Opened.{names_of, new_source}
use Rattle.early_engine.specs.Disks.{disk_of}
use Rattle.early_engine.specs.Deciding.{IsCut, IsCourse, IsSeeing, IsDecision}
use Rattle.early_engine.specs.Safe.{Run, Safe, state, seen_by, seat_at}
use Rattle.early_engine.specs.Steps.{next_stmt, HasNext}
use Rattle.early_engine.proofs.CourseLemmas.{own_seat, own_stmt, course_is, setting}
use Rattle.early_engine.specs.declared.course.Course.{Course}
use Rattle.early_engine.proofs.engine.Engine.statement.Goals as goal

pub answer-requires : goal.answer-requires
answer-requires g c κs w =
    let e : Run = record {
      opening = new_source c.self.inside.source c.self.inside.file (names_of (g.V.Volume.folder c.self.inside.opened.value));
      scripts = c.self.inside.scripts;
      disk = disk_of g.V.Volume.tells g.V.Volume.folder g.V.Volume.out g.V.Volume.failures g.V.Volume.file_failures c.self.inside.volume;
      shown = c.self.inside.pages;
      seats = c.self.inside.seats.items;
      kept = c.self.inside.ledger;
    } in
    let is : c.args.self.now ≡ e = sym c.self.view_is in
    let safe : Safe e = c.self.invariant in
    let next = subst (λ (r : Run). HasNext r c.args.place) is c.requires.next in
    let seat_is = own_seat e safe c.args.place next c.index.result.now c.index.ensures in
    let stmt_is = own_stmt e safe c.args.place next c.index.result.now c.stmt_at-stmt.result.now seat_is c.stmt_at-stmt.ensures.is in
    let course = course_is e safe c.args.place next c.index.result.now c.stmt_at-stmt.result.now c.choose.result seat_is stmt_is
    (c.choose.ensures e.opening (seen_by (state e)) (setting e safe c.args.place next c.cat-snaps.ensures.few) refl) in (
      w.0,
      (
        w.1.0,
        (
          w.1.1,
          (
            c.requires.next,
            (
              subst (λ (r : Run). IsDecision r.opening (seat_at r c.args.place).current r.shown (seen_by (state r)) (next_stmt r c.args.place) c.in-Answers.decision) (sym is)
                  (subst (λ (x : Course). IsCourse e.opening (seat_at e c.args.place).current e.shown (seen_by (state e)) (next_stmt e c.args.place) x) c.in-Answers.is course),
              refl,
            ),
          ),
        ),
      ),
    )

pub see-requires-clause-course : goal.see-requires-clause-course
see-requires-clause-course g c =
    let e : Run = record {
      opening = new_source c.self.inside.source c.self.inside.file (names_of (g.V.Volume.folder c.self.inside.opened.value));
      scripts = c.self.inside.scripts;
      disk = disk_of g.V.Volume.tells g.V.Volume.folder g.V.Volume.out g.V.Volume.failures g.V.Volume.file_failures c.self.inside.volume;
      shown = c.self.inside.pages;
      seats = c.self.inside.seats.items;
      kept = c.self.inside.ledger;
    } in
    let is : c.args.self.now ≡ e = sym c.self.view_is in
    let safe : Safe e = c.self.invariant in
    let next = subst (λ (r : Run). HasNext r c.args.place) is c.requires.next in
    let seat_is = own_seat e safe c.args.place next c.index.result.now c.index.ensures in
    let stmt_is = own_stmt e safe c.args.place next c.index.result.now c.stmt_at-stmt.result.now seat_is c.stmt_at-stmt.ensures.is in
    let course = course_is e safe c.args.place next c.index.result.now c.stmt_at-stmt.result.now c.choose.result seat_is stmt_is
    (c.choose.ensures e.opening (seen_by (state e)) (setting e safe c.args.place next c.cat-snaps.ensures.few) refl) in
    subst (λ (r : Run). IsSeeing r.opening (seat_at r c.args.place).current r.shown (next_stmt r c.args.place) c.in-See.s c.in-See.name) (sym is)
    (subst (λ (x : Course). IsCourse e.opening (seat_at e c.args.place).current e.shown (seen_by (state e)) (next_stmt e c.args.place) x) c.in-See.is course)

pub cut-requires-clause-course : goal.cut-requires-clause-course
cut-requires-clause-course g c =
    let e : Run = record {
      opening = new_source c.self.inside.source c.self.inside.file (names_of (g.V.Volume.folder c.self.inside.opened.value));
      scripts = c.self.inside.scripts;
      disk = disk_of g.V.Volume.tells g.V.Volume.folder g.V.Volume.out g.V.Volume.failures g.V.Volume.file_failures c.self.inside.volume;
      shown = c.self.inside.pages;
      seats = c.self.inside.seats.items;
      kept = c.self.inside.ledger;
    } in
    let is : c.args.self.now ≡ e = sym c.self.view_is in
    let safe : Safe e = c.self.invariant in
    let next = subst (λ (r : Run). HasNext r c.args.place) is c.requires.next in
    let seat_is = own_seat e safe c.args.place next c.index.result.now c.index.ensures in
    let stmt_is = own_stmt e safe c.args.place next c.index.result.now c.stmt_at-stmt.result.now seat_is c.stmt_at-stmt.ensures.is in
    let course = course_is e safe c.args.place next c.index.result.now c.stmt_at-stmt.result.now c.choose.result seat_is stmt_is
    (c.choose.ensures e.opening (seen_by (state e)) (setting e safe c.args.place next c.cat-snaps.ensures.few) refl) in
    subst (λ (r : Run). IsCut (next_stmt r c.args.place)) (sym is)
    (subst (λ (x : Course). IsCourse e.opening (seat_at e c.args.place).current e.shown (seen_by (state e)) (next_stmt e c.args.place) x) c.in-Cut.is course)
